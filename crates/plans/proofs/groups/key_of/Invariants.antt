-- The values so far are those of the columns before the index, and the row has the columns that are left.
use Rattle.std.proofs.Common.{◌≡◌, take, drop, IsSome}
use Rattle.std.specs.List.{AllByRecursion}
use Rattle.queries.specs.Answers.{column_in, group_of}
use Rattle.plans.specs.Inner.Places.{row_at_place}
use Rattle.plans.proofs.groups.key_of.Given as goal

abbrev pub invariant-loop-column : goal.invariant-loop-column
invariant-loop-column g l = record {
  there : AllByRecursion (λ column. IsSome (column_in (row_at_place (g.S.Store.values_at l.store) l.row) column))
      (drop l.column-index l.columns);
  values : l.values.items ≡ group_of (take l.column-index l.columns) (row_at_place (g.S.Store.values_at l.store) l.row);
}
