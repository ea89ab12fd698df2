-- One input more; and at the end all are there.
use Rattle.std.proofs.Common.{◌+◌, ◌∙◌, get_or, sym, ap, subst, arith}
use Rattle.std.proofs.lemmas.List.{length_push}
use Rattle.queries.specs.declared.aggregate.Aggregate.{Aggregate}
use Rattle.plans.specs.Inner.Held.{IsHeld, IsTaken}
use Rattle.plans.proofs.Tallied.{pushed}
use Rattle.plans.proofs.adding.lent.Goals as goal

pub loop-input-preserved : goal.loop-input-preserved
loop-input-preserved c =
    let held = c.args.held.now in
    let items = c.loop-input.inputs.items in
    let i = c.loop-input.input-index in
    let kept = c.loop-input.invariant in
    let input = c.lend.result in
    rw c.in_ok-push.ensures.items (record {
      sizes = length_push items input ∙ ap (λ n. n + 1) kept.sizes;
      each = λ values aggregates sizes are k d e lt.
          pushed (λ j taken. (a : Aggregate) → IsTaken (values j) (get_or aggregates j a) taken) items input i kept.sizes
          (λ j t before a. kept.each values aggregates sizes are j a t before)
          (λ a. c.lend.ensures (values i) (get_or aggregates i a)
          (subst (IsHeld (values i) (get_or aggregates i a)) (sym c.input-item.is)
          (are.each i a _ (omega (arith, c.loop-input-test.true, sizes))))) k e lt d;
    })

pub returns : goal.returns
returns c = λ values aggregates sizes are. record {
  sizes = omega (arith, c.loop-input.invariant.sizes, c.loop-input-test.false, c.loop-input.auto.input-index-end, sizes);
  each = λ k d e lt. c.loop-input.invariant.each values aggregates sizes are k d e (omega (arith, lt, c.loop-input-test.false, sizes));
}
