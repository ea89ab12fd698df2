-- What fits about a plan that fits, and which plans still fit.
use Rattle.std.specs.Prelude.{◌≡◌, List, [], ◌∷◌, ◌++◌, None, Some, Ok, slice_get}
use Rattle.std.specs.List.{AllByRecursion}
use Rattle.rows.specs.declared.kind.Kind.{Kind}
use Rattle.rows.specs.Shape.{Shape}
use Rattle.queries.specs.declared.plan.Plan.{Plan}
use Rattle.queries.specs.Checking.{joined_kinds, join_fault, condition_fault, group_fault, aggregate_fault, checked}

-- the tables of a plan are there, with columns of these kinds, and no part of it has a fault
pub record Fits (shape : Shape) (plan : Plan) : Type 0 where
  pub own : List Kind
  pub joined : List Kind
  pub own_there : slice_get shape plan.table ≡ Some own
  pub joined_there : joined_kinds shape plan.join ≡ Some joined
  pub join : join_fault own plan.join ≡ None
  pub conditions : AllByRecursion (λ condition. condition_fault own joined condition ≡ None) plan.conditions
  pub groups : AllByRecursion (λ column. group_fault own joined column ≡ None) plan.groups
  pub aggregates : AllByRecursion (λ aggregate. aggregate_fault own joined aggregate ≡ None) plan.aggregates

-- a plan that passes the check fits in each of its parts
abbrev pub EachPartFits : Type 0
EachPartFits = (shape : Shape) (plan : Plan) → checked shape plan ≡ Ok tt → Fits shape plan

-- a plan that fits still fits if a table has one column more, after the others
abbrev pub PlanStillFits : Type 0
PlanStillFits =
    (front back : Shape) (columns : List Kind) (kind : Kind) (plan : Plan) → checked (front ++ columns ∷ back) plan ≡ Ok tt
    → checked (front ++ (columns ++ kind ∷ []) ∷ back) plan ≡ Ok tt
