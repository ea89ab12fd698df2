-- The values so far are these numbers.
use Rattle.std.proofs.Common.{◌≡◌, map, take}
use Rattle.rows.specs.declared.value.Value.TheVariants.{Int}
use Rattle.plans.proofs.cells.numbers_of.Given as goal

abbrev pub invariant-loop-value : goal.invariant-loop-value
invariant-loop-value l = map Int l.numbers.items ≡ take l.value-index l.values
