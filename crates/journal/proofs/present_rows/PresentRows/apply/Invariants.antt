-- The entries so far are defined, and the rows that are present are those after them.
use Rattle.std.proofs.Common.{take}
use Rattle.rows.specs.Tables.{Tables, apply_entries}
use Rattle.journal.specs.Inner.Presence.{IsPresenceOf, IsApplied}
use Rattle.std.proofs.Common.{true}
use Rattle.journal.proofs.present_rows.PresentRows.apply.Given as goal

abbrev pub invariant-loop-entry : goal.invariant-loop-entry
invariant-loop-entry l =
    (tables : Tables) → IsPresenceOf tables l.fn.self → IsApplied true (apply_entries tables (take l.entry-index l.entries)) l.self
