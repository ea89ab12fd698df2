-- The plans before the index have the block's rows.
use Rattle.std.proofs.Common.{◌≡◌, length}
use Rattle.rows.specs.Tables.{Rows}
use Rattle.plans.specs.Inner.Scans.{AreNumberings, AreScanned, AreAdded}
use Rattle.plans.proofs.Scanned.{AreShared}
use Rattle.plans.proofs.scan.add_block.Given as goal

abbrev pub invariant-loop-plan : goal.invariant-loop-plan
invariant-loop-plan g l = record {
  numberings : AreNumberings l.plans l.numberings;
  tallies_size : length l.tallies ≡ length l.plans;
  shared_size : length l.shared ≡ length l.plans;
  shared : AreShared (g.S.Store.tables l.store) (g.S.Store.values_at l.store) l.block l.plans l.numberings l.shared;
  scanned : (scanned : Rows)
      → AreScanned (g.S.Store.tables l.store) l.plans l.classes l.block.table scanned l.block.from l.initial.numberings l.initial.tallies
      → AreAdded (g.S.Store.tables l.store) l.plans l.classes l.block scanned l.block.from l.plan l.numberings l.tallies;
}
