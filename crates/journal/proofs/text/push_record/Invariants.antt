-- The record's front, and the entries so far.
use Rattle.std.proofs.Common.{◌≡◌, ◌++◌, take}
use Rattle.std.specs.List.{flat_map}
use Rattle.rows.specs.Spelling.{entry_spelling}
use Rattle.journal.proofs.text.push_record.Given as goal

abbrev pub invariant-loop-entry : goal.invariant-loop-entry
invariant-loop-entry l = l.bytes.items ≡ l.initial.bytes.items ++ flat_map entry_spelling (take l.entry-index l.entries)
