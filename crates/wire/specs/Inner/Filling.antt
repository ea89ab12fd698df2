-- Bytes that entries fill.
use Rattle.std.specs.Prelude.{◌≡◌, ℕ, List, [], Some}
use Rattle.std.specs.Option.{unwrap_or}
use Rattle.rows.specs.Spelling.{AreBytes}
use Rattle.rows.specs.Reading.{entries_filling}

-- bytes that this many entries fill
pub record AreFilled (count : ℕ) (bytes : List ℕ) : Type 0 where
  pub filled : entries_filling count bytes ≡ Some (unwrap_or (entries_filling count bytes) [])
  pub are_bytes : AreBytes bytes
