-- The total so far is that of the entries so far.
use Rattle.std.proofs.Common.{◌≡◌, length, take}
use Rattle.rows.specs.Spelling.{entry_spelling}
use Rattle.std.specs.List.{flat_map}
use Rattle.wire.proofs.writing.entries_len.Given as goal

abbrev pub invariant-loop-entry : goal.invariant-loop-entry
invariant-loop-entry l = l.total ≡ length (flat_map entry_spelling (take l.entry-index l.entries))
