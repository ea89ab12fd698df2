-- The records of the commits so far.
use Rattle.std.proofs.Common.{◌≡◌, ◌+◌, ◌-◌, take}
use Rattle.journal.specs.Text.{records_from}
use Rattle.journal.proofs.text.records.Given as goal

abbrev pub invariant-loop-commit : goal.invariant-loop-commit
invariant-loop-commit l = record {
  numbered : l.number ≡ l.first - 1 + l.commit-index;
  written : l.bytes.items ≡ records_from (l.first - 1) (take l.commit-index l.commits);
}
