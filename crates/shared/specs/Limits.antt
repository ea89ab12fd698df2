-- Limits of a line.
use Rattle.std.specs.Prelude.{ℕ}

-- seats of a line, at most
abbrev pub seats_max : ℕ
seats_max = 32
