-- One aggregate more; and at the end all are there.
use Rattle.std.proofs.Common.{ℕ, ◌+◌, ◌∙◌, get_or, List, ap, subst, arith, map}
use Rattle.std.proofs.lemmas.List.{get_or_default, length_push}
use Rattle.rows.specs.declared.value.Value.{Value}
use Rattle.queries.specs.declared.aggregate.Aggregate.{Aggregate}
use Rattle.plans.specs.Inner.Cells.{value_at, values_at}
use Rattle.plans.specs.Inner.Held.{IsHeld}
use Rattle.plans.proofs.Tallied.{pushed}
use Rattle.plans.proofs.adding.held_of_some.Goals as goal

pub loop-index-preserved : goal.loop-index-preserved
loop-index-preserved c =
    let aggregates = c.args.aggregates.now in
    let items = c.loop-index.held.items in
    let i = c.loop-index.index in
    let kept = c.loop-index.invariant in
    let input = c.in_ok-input.input in
    let values : ℕ → List Value = λ k. map (value_at (values_at c.args.columns.now (get_or c.args.places.now k 0))) c.args.positions.now in
    rw c.in_ok-push.ensures.items (record {
      sizes = length_push items input ∙ ap (λ n. n + 1) kept.sizes;
      each = λ k d e lt.
          pushed (λ j held. (a : Aggregate) → IsHeld (values j) (get_or aggregates j a) held) items input i kept.sizes
          (λ j t before a. kept.each j a t before)
          (λ a. subst (λ aggregate. IsHeld (values i) aggregate input)
          (get_or_default aggregates i _ a c.loop-index-test.true) c.in_ok-input.ensures) k e lt d;
    })

pub returns : goal.returns
returns c = record {
  sizes = omega (arith, c.loop-index.invariant.sizes, c.loop-index-test.false, c.loop-index.auto.index-end);
  each = λ k d e lt. c.loop-index.invariant.each k d e (omega (arith, lt, c.loop-index-test.false));
}
