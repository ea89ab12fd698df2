-- What is left decides for all, and the row has the columns of the conditions that are left.
use Rattle.std.proofs.Common.{◌≡◌, drop, IsSome}
use Rattle.std.specs.List.{AllByRecursion, list_all}
use Rattle.queries.specs.Answers.{column_in, meets}
use Rattle.plans.specs.Inner.Places.{row_at_place}
use Rattle.plans.proofs.answering.meets_all.Given as goal

abbrev pub invariant-loop-condition : goal.invariant-loop-condition
invariant-loop-condition g l = record {
  there : AllByRecursion
      (λ condition. IsSome (column_in (row_at_place (g.S.Store.values_at l.store) l.row) condition.column))
      (drop l.condition-index l.conditions);
  same : list_all (meets (row_at_place (g.S.Store.values_at l.store) l.row)) (drop l.condition-index l.conditions)
      ≡ list_all (meets (row_at_place (g.S.Store.values_at l.store) l.row)) l.conditions;
}
