-- The aggregates so far are those of the plans before the index.
use Rattle.std.proofs.Common.{◌≡◌, map, take}
use Rattle.plans.proofs.ranging.aggregates_of.Given as goal

abbrev pub invariant-loop-plan : goal.invariant-loop-plan
invariant-loop-plan l = l.lists.items ≡ map (λ plan. plan.aggregates) (take l.plan-index l.plans)
