-- Which values have words.
use Rattle.std.specs.Prelude.{◌<◌, ◌≤◌, length, FitsSigned}
use Rattle.std.specs.Int.{w64}
use Rattle.rows.specs.declared.value.Value.{Value}
use Rattle.rows.specs.declared.value.Value.TheVariants as values
use Rattle.rows.specs.Limits.{octets_max}
use Rattle.rows.specs.Spelling.{AreBytes}

-- a value that a word can have: a number of 64 bits, or 1 to 64 bytes
abbrev pub HasWord : Value → Type 0
HasWord (values.Int number) = FitsSigned w64 number
HasWord (values.Octets bytes) = (0 < length bytes) × (length bytes ≤ octets_max) × AreBytes bytes
