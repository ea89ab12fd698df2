-- Whether the row is there after the entries so far.
use Rattle.std.proofs.Common.{◌≡◌, take}
use Rattle.rows.specs.Presence.{is_there_after}
use Rattle.rows.proofs.row_presence.is_there_after.Given as goal

abbrev pub invariant-loop-entry : goal.invariant-loop-entry
invariant-loop-entry l = l.there ≡ is_there_after l.table l.row.0 (take l.entry-index l.entries) l.was
