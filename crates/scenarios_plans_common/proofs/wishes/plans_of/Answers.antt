-- One more plan that fits.
use Rattle.std.proofs.Common.{◌≡◌, List, [], ◌∷◌, ◌++◌, Ok, sym, ◌∙◌}
use Rattle.std.specs.List.{AllByRecursion}
use Rattle.queries.specs.declared.plan.Plan.{Plan}
use Rattle.rows.specs.Shape.{shape_of}
use Rattle.queries.specs.Checking.{checked}
use Rattle.scenarios_plans_common.proofs.wishes.plans_of.Goals as goal

push-fits : (P : Plan → Type 0) (plans : List Plan) (plan : Plan) → AllByRecursion P plans → P plan → AllByRecursion P (plans ++ plan ∷ [])
push-fits P [] plan h fits = (fits, tt)
push-fits P (first ∷ plans) plan h fits = (h.0, push-fits P plans plan h.1 fits)

pub loop-wish-preserved : goal.loop-wish-preserved
loop-wish-preserved c =
    rw c.in_ok-push.ensures.items (push-fits (λ plan. checked (shape_of c.args.schema.now) plan ≡ Ok (tt {0})) c.loop-wish.plans.items
    c.in_ok-plan.plan c.loop-wish.invariant (sym c.check.ensures ∙ c.in_ok-check.was))
