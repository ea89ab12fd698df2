-- The groups so far are those of the plans before the index.
use Rattle.std.proofs.Common.{◌≡◌, map, take}
use Rattle.plans.specs.Inner.Kept.{opening_groups}
use Rattle.plans.proofs.ranging.openings.Given as goal

abbrev pub invariant-loop-plan : goal.invariant-loop-plan
invariant-loop-plan l = l.groups.items ≡ map opening_groups (take l.plan-index l.plans)
