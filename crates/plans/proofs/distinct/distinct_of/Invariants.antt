-- The plans before the index stand at their places.
use Rattle.plans.proofs.Equal.{ArePlacedSoFar}
use Rattle.plans.proofs.distinct.distinct_of.Given as goal

abbrev pub invariant-loop-plan : goal.invariant-loop-plan
invariant-loop-plan l = ArePlacedSoFar l.plans l.firsts.items l.places.items l.plan-index
