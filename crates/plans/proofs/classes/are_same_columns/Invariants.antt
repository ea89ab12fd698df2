-- The columns before the index are the same.
use Rattle.std.proofs.Common.{◌≡◌, take}
use Rattle.plans.proofs.classes.are_same_columns.Given as goal

abbrev pub invariant-loop-index : goal.invariant-loop-index
invariant-loop-index l = take l.index l.columns ≡ take l.index l.others
