-- The bytes so far are those of the values before the index.
use Rattle.std.proofs.Common.{◌≡◌, take}
use Rattle.rows.specs.Values.{bytes_of}
use Rattle.rows.proofs.row.row_bytes.Given as goal

abbrev pub invariant-loop-value : goal.invariant-loop-value
invariant-loop-value l = l.bytes.items ≡ bytes_of (take l.value-index l.values)
