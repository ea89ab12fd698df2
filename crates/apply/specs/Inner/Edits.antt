-- Columns before and after each of them was changed.
use Rattle.std.specs.Prelude.{◌≡◌, ℕ, ◌+◌, ◌<◌, ◌≤◌, List, length, take, drop, slice_index_or}
use Rattle.std.specs.List.{insert, remove}
use Rattle.rows.specs.declared.value.Value.{Value}
use Rattle.rows.specs.Shape.{row_width}
use Rattle.rows.specs.Values.{value_of}
use Rattle.apply.specs.declared.cells.Cells.{Cells}
use Rattle.apply.specs.Columns.{kind_of, values_in, AreCells}
use Rattle.apply.specs.Blocks.{kinds_with}

-- each of the columns has a value for each of so many rows
abbrev pub AllCells : ℕ → List Cells → Type 0
AllCells rows columns = (k : ℕ) (d : Cells) → k < length columns → AreCells rows (slice_index_or columns k d)

-- of the first columns, each with its number, before and after
abbrev pub Each : (ℕ → Cells → Cells → Type 0) → ℕ → List Cells → List Cells → Type 0
Each R count olds news = (k : ℕ) (d : Cells) → k < count → R k (slice_index_or olds k d) (slice_index_or news k d)

-- the other columns stay
abbrev pub SameFrom : ℕ → List Cells → List Cells → Type 0
SameFrom count olds news = (k : ℕ) (d : Cells) → count ≤ k → slice_index_or news k d ≡ slice_index_or olds k d

-- a value was put in
pub record IsPut (rows at : ℕ) (value : Value) (old new : Cells) : Type 0 where
  pub kind : kind_of new ≡ kind_of old
  pub cells : AreCells (rows + 1) new
  pub values : values_in (rows + 1) new ≡ insert (values_in rows old) at value

-- a value was taken out
pub record IsTaken (rows at : ℕ) (old new : Cells) : Type 0 where
  pub kind : kind_of new ≡ kind_of old
  pub cells : (left : ℕ) → left + 1 ≡ rows → AreCells left new
  pub values : (left : ℕ) → left + 1 ≡ rows → values_in left new ≡ remove (values_in rows old) at

-- the values before a row are left
pub record IsFront (rows at : ℕ) (old new : Cells) : Type 0 where
  pub kind : kind_of new ≡ kind_of old
  pub cells : AreCells at new
  pub values : values_in at new ≡ take at (values_in rows old)

-- the bytes of a row from a column on
abbrev pub bytes_from : List Cells → ℕ → List ℕ → List ℕ
bytes_from columns k bytes = drop (row_width (take k (kinds_with columns))) bytes

-- the values of a row, given by its bytes, were put in, one into each column
abbrev pub IsPutIn : ℕ → ℕ → List Cells → List ℕ → ℕ → Cells → Cells → Type 0
IsPutIn rows at columns bytes k old new = IsPut rows at (value_of (kind_of old) (bytes_from columns k bytes)) old new
