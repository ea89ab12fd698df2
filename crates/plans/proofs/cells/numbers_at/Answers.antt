-- Numbers that are gathered are the values at their positions.
use Rattle.std.proofs.Common.{map, ap, ◌∙◌}
use Rattle.rows.specs.declared.value.Value.TheVariants.{Int}
use Rattle.plans.proofs.ColumnValues.{values-int}
use Rattle.plans.proofs.cells.numbers_at.Goals as goal

pub returns : goal.returns
returns c = ap (map Int) c.in_ok-gathered.ensures ∙ values-int c.args.numbers.now c.args.positions.now
