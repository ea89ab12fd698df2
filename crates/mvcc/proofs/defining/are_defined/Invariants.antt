-- The entries so far are defined, each has a spelling, and their rows are told.
use Rattle.std.proofs.Common.{◌≡◌, true, take}
use Rattle.std.specs.List.{AllByRecursion}
use Rattle.rows.specs.Spelling.{HasSpelling}
use Rattle.mvcc.specs.VersionList.{defined_at}
use Rattle.mvcc.specs.Inner.RowsTold.{IsToldAfter}
use Rattle.mvcc.proofs.defining.are_defined.Given as goal

abbrev pub invariant-loop-index : goal.invariant-loop-index
invariant-loop-index l = record {
  defined : defined_at l.versions l.version (take l.index l.entries) ≡ true;
  spelled : AllByRecursion HasSpelling (take l.index l.entries);
  told : IsToldAfter l.versions l.version (take l.index l.entries) l.told;
}
