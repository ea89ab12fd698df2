-- The entries so far, each of at most `entry_len_max` bytes.
use Rattle.std.proofs.Common.{◌≡◌, ◌≤◌, ◌+◌, ◌*◌, length, take}
use Rattle.std.specs.List.{flat_map}
use Rattle.rows.specs.Spelling.{entry_spelling}
use Rattle.journal.specs.Recovery.{record_front_len, entry_len_max}
use Rattle.journal.proofs.text.body_len.Given as goal

abbrev pub invariant-loop-entry : goal.invariant-loop-entry
invariant-loop-entry l = record {
  counted : l.len ≡ record_front_len + length (flat_map entry_spelling (take l.entry-index l.entries));
  few : l.len ≤ record_front_len + entry_len_max * l.entry-index;
}
