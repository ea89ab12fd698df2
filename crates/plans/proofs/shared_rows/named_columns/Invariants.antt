-- The columns of the conditions before the index.
use Rattle.std.proofs.Common.{◌≡◌, take}
use Rattle.plans.specs.Inner.Selections.{columns_of}
use Rattle.plans.proofs.shared_rows.named_columns.Given as goal

abbrev pub invariant-loop-condition : goal.invariant-loop-condition
invariant-loop-condition l = l.columns.items ≡ columns_of (take l.condition-index l.conditions)
