-- The integers of the values so far.
use Rattle.std.proofs.Common.{◌≡◌, map, take}
use Rattle.queries.specs.Answers.{integer_of}
use Rattle.plans.proofs.held_input.integers_of.Given as goal

abbrev pub invariant-loop-value : goal.invariant-loop-value
invariant-loop-value l = l.integers.items ≡ map integer_of (take l.value-index l.values)
