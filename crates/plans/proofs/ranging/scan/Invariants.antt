-- The tables of the plans before the index were looked at, and so were all that are marked.
use Rattle.std.proofs.Common.{◌≡◌, ℕ, ◌<◌, true, false, get_or, length}
use Rattle.queries.specs.declared.plan.Plan.{Plan}
use Rattle.plans.proofs.Ranged.{AreScanned}
use Rattle.plans.proofs.ranging.scan.Given as goal

abbrev pub invariant-loop-plan : goal.invariant-loop-plan
invariant-loop-plan g l = record {
  size : length l.scanned ≡ 256;
  named : (k : ℕ) (d : Plan) → k < l.plan-index → get_or l.scanned (get_or l.plans k d).table false ≡ true;
  state : AreScanned (g.S.Store.tables l.store) l.plans l.from l.to l.scanned l.groups;
}
