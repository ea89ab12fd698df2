-- The buffer begins with the entries so far, and the rest of it stays.
use Rattle.std.proofs.Common.{◌≡◌, ◌++◌, length, drop, take}
use Rattle.rows.specs.Spelling.{entry_spelling}
use Rattle.std.specs.List.{flat_map}
use Rattle.wire.proofs.writing.write_entries.Given as goal

abbrev pub invariant-loop-entry : goal.invariant-loop-entry
invariant-loop-entry l = record {
  at : l.at ≡ length (flat_map entry_spelling (take l.entry-index l.entries));
  written : l.buffer ≡ flat_map entry_spelling (take l.entry-index l.entries) ++ drop l.at l.initial.buffer;
}
