-- Which positions a test selects.
use Rattle.std.specs.Prelude.{ℕ, ℤ, pos, List, Bool, true, false, not, ◌&&◌, int_le, slice_index_or}

-- a number is from one number to another, both included
abbrev pub is_between : ℤ → ℤ → ℤ → Bool
is_between low high number = int_le low number && int_le number high

-- whether a number is selected: if it is between two others, or if it is not
abbrev pub is_selected : ℤ → ℤ → Bool → ℤ → Bool
is_selected low high true number = is_between low high number
is_selected low high false number = not (is_between low high number)

-- the number at a position
abbrev pub number_at : List ℤ → ℕ → ℤ
number_at numbers position = slice_index_or numbers position (pos 0)
