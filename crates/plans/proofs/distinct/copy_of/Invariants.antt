-- The lines so far are those before the index.
use Rattle.std.proofs.Common.{◌≡◌, take}
use Rattle.plans.proofs.distinct.copy_of.Given as goal

abbrev pub invariant-loop-line : goal.invariant-loop-line
invariant-loop-line l = l.copies.items ≡ take l.line-index l.lines
