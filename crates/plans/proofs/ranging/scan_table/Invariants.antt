-- The plans on the table have looked at the rows before the position.
use Rattle.std.proofs.Common.{ℕ, ◌<◌, ◌≤◌, get_or, length}
use Rattle.queries.specs.declared.plan.Plan.{Plan}
use Rattle.plans.specs.Inner.Kept.{GroupList}
use Rattle.plans.specs.Inner.Ranges.{LooksAt}
use Rattle.plans.proofs.ranging.scan_table.Given as goal

abbrev pub invariant-loop-i : goal.invariant-loop-i
invariant-loop-i g l = record {
  within : l.i ≤ l.to;
  looks : (k : ℕ) (d : Plan) (e : GroupList) → k < length l.plans
      → LooksAt (g.S.Store.tables l.store) (get_or l.plans k d) l.table l.from l.i (get_or l.initial.groups k e) (get_or l.groups k e);
}
