-- One aggregate more has its place; and at the end all have.
use Rattle.std.proofs.Common.{ℕ, ◌+◌, ◌∙◌, List, length, get_or, ap, subst, arith}
use Rattle.std.proofs.lemmas.List.{get_or_default, length_push}
use Rattle.queries.specs.declared.aggregate.Aggregate.{Aggregate}
use Rattle.queries.specs.Answers.{JoinedRow}
use Rattle.plans.specs.Inner.Partnered.{joined_rows}
use Rattle.plans.specs.Inner.Shared.{IsInputOfRows}
use Rattle.plans.proofs.Fills.{grows-none, grows-more}
use Rattle.plans.proofs.Sharing.{input-grown, have-inputs, are-values}
use Rattle.plans.proofs.Tallied.{pushed}
use Rattle.plans.proofs.shared_rows.input_places.Goals as goal

pub loop-aggregate-init : goal.loop-aggregate-init
loop-aggregate-init g c = record {
  sizes = ap length c.in_ok-places.ensures.items;
  filled = c.requires.filled;
  grows = grows-none c.args.filled.now.cells.items;
  each = λ k d lt. absurd (omega (arith, lt));
}

pub input_place-requires-clause-filled : goal.input_place-requires-clause-filled
input_place-requires-clause-filled g c = λ _ _. c.loop-aggregate.invariant.filled

pub loop-aggregate-preserved : goal.loop-aggregate-preserved
loop-aggregate-preserved g c =
    let aggregates = c.args.aggregates.now in
    let rows : List JoinedRow =
    joined_rows (g.S.Store.tables c.args.store.now) (g.S.Store.values_at c.args.store.now) c.args.block.now c.args.partners.now in
    let items = c.loop-aggregate.places.items in
    let i = c.loop-aggregate.aggregate-index in
    let kept = c.loop-aggregate.invariant in
    let place = c.in_ok-place.place in
    let before = c.loop-aggregate.filled.cells.items in
    let after = c.input_place.new.filled.cells.items in
    rw c.in_ok-push.ensures.items (record {
      sizes = length_push items place ∙ ap (λ n. n + 1) kept.sizes;
      filled = c.in_ok-place.ensures.filled;
      grows = grows-more c.args.filled.now.cells.items before after kept.grows c.in_ok-place.ensures.grows;
      each = λ k d lt.
          pushed (λ j at. (a : Aggregate) → IsInputOfRows after at rows (get_or aggregates j a)) items place i kept.sizes
          (λ j t within a. subst (λ (at : ℕ). IsInputOfRows after at rows (get_or aggregates j a))
          (get_or_default items j 0 t (omega (arith, within, kept.sizes)))
          (input-grown before after (get_or items j 0) rows (get_or aggregates j a) c.in_ok-place.ensures.grows (kept.each j a within)))
          (λ a. subst (λ (aggregate : Aggregate). IsInputOfRows after place rows aggregate)
          (get_or_default aggregates i _ a c.loop-aggregate-test.true) c.in_ok-place.ensures.place) k 0 lt d;
    })

pub returns-clause-there : goal.returns-clause-there
returns-clause-there g c =
    have-inputs c.loop-aggregate.filled.cells.items c.loop-aggregate.places.items _ c.args.aggregates.now
    (omega (arith, c.loop-aggregate.invariant.sizes, c.loop-aggregate-test.false, c.loop-aggregate.auto.aggregate-index-end))
    (λ k d lt. c.loop-aggregate.invariant.each k d (omega (arith, lt, c.loop-aggregate-test.false)))

pub returns-clause-values : goal.returns-clause-values
returns-clause-values g c =
    are-values c.loop-aggregate.filled.cells.items c.loop-aggregate.places.items _ c.args.aggregates.now
    (λ k d lt. c.loop-aggregate.invariant.each k d (omega (arith, lt, c.loop-aggregate-test.false)))
