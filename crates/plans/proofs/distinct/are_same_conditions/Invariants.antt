-- The conditions before the index are the same.
use Rattle.std.proofs.Common.{◌≡◌, take}
use Rattle.plans.proofs.distinct.are_same_conditions.Given as goal

abbrev pub invariant-loop-index : goal.invariant-loop-index
invariant-loop-index l = take l.index l.conditions ≡ take l.index l.others
