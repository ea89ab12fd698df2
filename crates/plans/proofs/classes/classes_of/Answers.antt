-- One plan more has its class; and at the end all have.
use Rattle.std.proofs.Common.{◌+◌, ◌<◌, ◌∙◌, length, get_or, ap, arith}
use Rattle.std.proofs.lemmas.List.{length_push}
use Rattle.queries.specs.declared.plan.Plan.{Plan}
use Rattle.plans.specs.Inner.Scans.{AreAlike}
use Rattle.plans.proofs.Tallied.{pushed}
use Rattle.plans.proofs.classes.classes_of.Goals as goal

pub loop-plan-preserved : goal.loop-plan-preserved
loop-plan-preserved c =
    let plans = c.args.plans.now in
    let items = c.loop-plan.classes.items in
    let i = c.loop-plan.plan in
    let kept = c.loop-plan.invariant in
    let class = c.class_of.result in
    rw c.in_ok-push.ensures.items (record {
      sizes = length_push items class ∙ ap (λ n. n + 1) kept.sizes;
      within = pushed (λ k n. n < length plans) items class i kept.sizes kept.within c.class_of.ensures.within;
      alike = λ p n d lt.
          pushed (λ k m. (e : Plan) → AreAlike (get_or plans m e) (get_or plans k e)) items class i kept.sizes
          (λ k t before e. kept.alike k t e before) c.class_of.ensures.alike p n lt d;
    })

pub returns : goal.returns
returns c = record {
  sizes = omega (arith, c.loop-plan.invariant.sizes, c.loop-plan-test.false, c.loop-plan.auto.plan-end);
  within = λ p n lt. c.loop-plan.invariant.within p n (omega (arith, lt, c.loop-plan-test.false));
  alike = λ p n d lt. c.loop-plan.invariant.alike p n d (omega (arith, lt, c.loop-plan-test.false));
}
