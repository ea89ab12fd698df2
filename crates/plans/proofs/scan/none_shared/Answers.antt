-- One more is nothing.
use Rattle.std.proofs.Common.{◌≡◌, ◌+◌, None, refl, ap, ◌∙◌, arith}
use Rattle.std.proofs.lemmas.List.{length_push}
use Rattle.plans.proofs.Tallied.{pushed}
use Rattle.plans.proofs.scan.none_shared.Goals as goal

pub loop-plan-preserved : goal.loop-plan-preserved
loop-plan-preserved g c =
    let items = c.loop-plan.shared.items in
    let i = c.loop-plan.plan in
    let kept = c.loop-plan.invariant in
    rw c.in_ok-push.ensures.items (record {
      sizes = length_push items None ∙ ap (λ n. n + 1) kept.sizes;
      none = pushed (λ k held. held ≡ None) items None i kept.sizes (λ k t lt. kept.none k t lt) refl;
    })

pub returns : goal.returns
returns g c = record {
  sizes = omega (arith, c.loop-plan.invariant.sizes, c.loop-plan-test.false, c.loop-plan.auto.plan-end);
  none = λ r d lt. c.loop-plan.invariant.none r d (omega (arith, lt, c.loop-plan-test.false));
}
