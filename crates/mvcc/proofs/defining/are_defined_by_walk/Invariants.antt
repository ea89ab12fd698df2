-- The entries so far are defined, and each has a spelling.
use Rattle.std.proofs.Common.{◌≡◌, true, take}
use Rattle.std.specs.List.{AllByRecursion}
use Rattle.rows.specs.Spelling.{HasSpelling}
use Rattle.mvcc.specs.VersionList.{defined_at}
use Rattle.mvcc.proofs.defining.are_defined_by_walk.Given as goal

abbrev pub invariant-loop-index : goal.invariant-loop-index
invariant-loop-index l = record {
  defined : defined_at l.versions l.version (take l.index l.entries) ≡ true;
  spelled : AllByRecursion HasSpelling (take l.index l.entries);
}
