-- Bytes of lines.
use Rattle.std.specs.Prelude.{ℕ, Bool, not, ◌==◌}

-- whether a byte stands inside a line: each but 0a, its end
abbrev pub is_inside : ℕ → Bool
is_inside byte = not (byte == 10)
