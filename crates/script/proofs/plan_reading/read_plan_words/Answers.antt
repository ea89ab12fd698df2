-- What the parts of a plan give, together.
use Rattle.std.proofs.Common.{◌≡◌, ◌∙◌, ◌<◌, length, arith}
use Rattle.std.proofs.lemmas.Grind.{common_steps}
use Rattle.std.proofs.lemmas.List.{length-map}
use Rattle.script.specs.Inner.PlanParts.{lent_lists}
use Rattle.script.proofs.PlanSteps.{plan-of-parts, plan-of-none, whole-none, whole-left, whole-on, gives-because}
use Rattle.script.proofs.plan_reading.read_plan_words.Goals as goal

pub returns-in_default : goal.returns-in_default
returns-in_default c = plan-of-none c.args.schema.now (lent_lists c.args.words.now) c.in_default.ensures

pub returns-then-is_empty : goal.returns-then-is_empty
returns-then-is_empty c =
    let none : length c.in-Ok-read_aggregates.aggregates.items ≡ 0 = first_of (omega arith, grind (arith, common_steps)) in
    plan-of-parts c.args.schema.now (lent_lists c.args.words.now) _ _ _ _ _ _ _ _ _ _ c.in-Some.ensures c.read_join.ensures c.in-Ok.ensures
    c.in-Ok-read_groups.ensures c.in-Ok-read_aggregates.ensures
    ∙ whole-none _ _ _ _ c.in-Ok-read_aggregates.aggregates.items (lent_lists c.in-Ok-read_aggregates.left.now) none

pub returns-then-not-is_empty : goal.returns-then-not-is_empty
returns-then-not-is_empty c =
    let count = length-map c.in-Ok-read_aggregates.left.now (λ word. word.now) in
    let some : 0 < length (lent_lists c.in-Ok-read_aggregates.left.now) = first_of (omega arith, grind (arith, common_steps)) in
    plan-of-parts c.args.schema.now (lent_lists c.args.words.now) _ _ _ _ _ _ _ _ _ _ c.in-Some.ensures c.read_join.ensures c.in-Ok.ensures
    c.in-Ok-read_groups.ensures c.in-Ok-read_aggregates.ensures
    ∙ whole-left _ _ _ _ c.in-Ok-read_aggregates.aggregates.items (lent_lists c.in-Ok-read_aggregates.left.now) some

pub returns : goal.returns
returns c =
    let count = length-map c.in-Ok-read_aggregates.left.now (λ word. word.now) in
    let some : 0 < length c.in-Ok-read_aggregates.aggregates.items = first_of (omega arith, grind (arith, common_steps)) in
    let none : length (lent_lists c.in-Ok-read_aggregates.left.now) ≡ 0 = first_of (omega arith, grind (arith, common_steps)) in
    gives-because _ _ c.plan_on.result
    (plan-of-parts c.args.schema.now (lent_lists c.args.words.now) _ _ _ _ _ _ _ _ _ _ c.in-Some.ensures c.read_join.ensures c.in-Ok.ensures
    c.in-Ok-read_groups.ensures c.in-Ok-read_aggregates.ensures
    ∙ whole-on _ _ _ _ c.in-Ok-read_aggregates.aggregates.items (lent_lists c.in-Ok-read_aggregates.left.now) some none) c.plan_on.ensures
