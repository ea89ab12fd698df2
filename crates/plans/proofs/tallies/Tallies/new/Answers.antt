-- One tally more of no rows; and at the end there is one for each aggregate.
use Rattle.std.proofs.Common.{◌+◌, [], List, length, get_or, refl, ap, subst, ◌∙◌, arith}
use Rattle.std.proofs.lemmas.List.{get_or_default, length_push}
use Rattle.std.proofs.lemmas.Option.{none-some}
use Rattle.queries.specs.declared.aggregate.Aggregate.{Aggregate}
use Rattle.queries.specs.declared.column.Column.{Column}
use Rattle.plans.specs.Inner.Numbered.{IsColumn, IsTold}
use Rattle.plans.proofs.Tallied.{pushed}
use Rattle.plans.proofs.tallies.Tallies.new.Goals as goal

pub loop-aggregate-preserved : goal.loop-aggregate-preserved
loop-aggregate-preserved c =
    let aggregates = c.args.aggregates.now in
    let index = c.loop-aggregate.aggregate-index in
    let tally = c.empty_tally.result in
    let size = c.loop-aggregate.invariant.sizes in
    rw c.in_ok-push.ensures.items (record {
      sizes = length_push c.loop-aggregate.columns.items tally ∙ ap (λ n. n + 1) size;
      shaped =
          pushed (λ k t. (d : Aggregate) → IsColumn 0 0 (get_or aggregates k d) t) c.loop-aggregate.columns.items tally index size
          c.loop-aggregate.invariant.shaped
          (λ d. subst (λ a. IsColumn 0 0 a tally) (get_or_default aggregates index _ d c.loop-aggregate-test.true)
          c.empty_tally.ensures.shaped);
      told =
          pushed (λ k t. (d : Aggregate) (columns : List Column) → IsTold columns [] [] (get_or aggregates k d) t)
          c.loop-aggregate.columns.items tally index size c.loop-aggregate.invariant.told
          (λ d columns. subst (λ a. IsTold columns [] [] a tally) (get_or_default aggregates index _ d c.loop-aggregate-test.true)
          (c.empty_tally.ensures.told columns));
    })

pub returns-clause-shaped : goal.returns-clause-shaped
returns-clause-shaped c = record {
  counts = ap length c.new.ensures.items;
  within = λ n d lt. absurd (omega (arith, lt));
  sizes = c.loop-aggregate.invariant.sizes ∙ omega (arith, c.loop-aggregate-test.false, c.loop-aggregate.auto.aggregate-index-end);
  each = λ k d t lt.
      c.loop-aggregate.invariant.shaped k t (omega (arith, lt, c.loop-aggregate-test.false, c.loop-aggregate.auto.aggregate-index-end)) d;
}

pub returns-clause-tallied : goal.returns-clause-tallied
returns-clause-tallied c = λ columns. record {
  distinct = λ i j key other one. absurd (none-some key one);
  numbers = [];
  numbered = refl;
  counts = c.new.ensures.items;
  each = λ k d t lt.
      c.loop-aggregate.invariant.told k t (omega (arith, lt, c.loop-aggregate-test.false, c.loop-aggregate.auto.aggregate-index-end)) d
      columns;
}
