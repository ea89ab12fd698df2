-- One plan more stands at its place; and at the end all do.
use Rattle.std.proofs.Common.{◌∙◌, sym, subst}
use Rattle.std.proofs.lemmas.List.{get_or_default}
use Rattle.plans.proofs.Equal.{ArePlacedSoFar, placed-none, placed-next, placed-all}
use Rattle.plans.proofs.distinct.distinct_of.Goals as goal

pub loop-plan-init : goal.loop-plan-init
loop-plan-init c =
    subst (λ firsts. ArePlacedSoFar c.args.plans.now firsts c.in_ok-places.places.items 0) (sym c.new-firsts.ensures.items)
    (placed-none c.args.plans.now c.in_ok-places.places.items c.in_ok-places.ensures.items)

pub loop-plan-preserved : goal.loop-plan-preserved
loop-plan-preserved c =
    let plans = c.args.plans.now in
    let i = c.loop-plan.plan-index in
    rw c.in_ok-push.ensures.items
    (placed-next plans c.loop-plan.firsts.items c.loop-plan.places.items i c.plan-item.result c.placed.new.firsts.items c.in_ok-place.place
    c.loop-plan.invariant c.loop-plan-test.true
    (λ d. get_or_default plans i d c.plan-item.result c.loop-plan-test.true ∙ sym c.plan-item.is) c.in_ok-place.ensures)

pub returns : goal.returns
returns c =
    placed-all c.args.plans.now c.loop-plan.firsts.items c.loop-plan.places.items c.loop-plan.plan-index c.loop-plan.invariant
    c.loop-plan.auto.plan-index-end c.loop-plan-test.false
