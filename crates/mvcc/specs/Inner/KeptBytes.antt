-- The bytes that a commit left of a row, as they are kept; `None` where the row is not there.
use Rattle.std.specs.Prelude.{ℕ, List, take, Option, None, Some}
use Rattle.mvcc.specs.declared.kept_bytes.Kept.{Kept}
use Rattle.mvcc.specs.declared.kept_bytes.Kept.TheVariants.{Absent, Inline, Apart}

abbrev pub bytes_in : Kept → Option (List ℕ)
bytes_in Absent = None
bytes_in (Inline len buffer) = Some (take len buffer)
bytes_in (Apart bytes) = Some bytes

-- how many bytes are kept inline
abbrev pub inline_len : Kept → ℕ
inline_len Absent = 0
inline_len (Inline len buffer) = len
inline_len (Apart bytes) = 0
