-- The line so far has the values before the index.
use Rattle.std.proofs.Common.{◌≡◌, map, take}
use Rattle.queries.specs.declared.field.Field.TheVariants.{Stored}
use Rattle.plans.proofs.groups.line_of.Given as goal

abbrev pub invariant-loop-value : goal.invariant-loop-value
invariant-loop-value l = l.line.items ≡ map Stored (take l.value-index l.group)
