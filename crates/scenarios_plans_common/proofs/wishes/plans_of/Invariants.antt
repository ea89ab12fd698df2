-- The plans so far fit.
use Rattle.std.proofs.Common.{◌≡◌, Ok}
use Rattle.std.specs.List.{AllByRecursion}
use Rattle.rows.specs.Shape.{shape_of}
use Rattle.queries.specs.Checking.{checked}
use Rattle.scenarios_plans_common.proofs.wishes.plans_of.Given as goal

abbrev pub invariant-loop-wish : goal.invariant-loop-wish
invariant-loop-wish l = AllByRecursion (λ plan. checked (shape_of l.schema) plan ≡ Ok (tt {0})) l.plans.items
