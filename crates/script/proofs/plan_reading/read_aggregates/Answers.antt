-- One more is read, or the words that are left are none.
use Rattle.std.proofs.Common.{◌∙◌, ◌-◌, ◌+◌, List, ◌∷◌, ◌++◌, [], length, sym, ap, arith}
use Rattle.std.proofs.lemmas.List.{length-map}
use Rattle.queries.specs.declared.aggregate.Aggregate.{Aggregate}
use Rattle.script.specs.Inner.PlanParts.{lent_lists}
use Rattle.script.specs.Inner.PlanReading.{get_first, aggregate_first, aggregates_of}
use Rattle.script.proofs.PlanSeries.{series-none, series-begun, many-step, many-stopped, many-done}
use Rattle.script.proofs.plan_reading.read_aggregates.Goals as goal

pub returns-in_default : goal.returns-in_default
unfolding aggregates_of
returns-in_default c =
    series-none (get_first (lent_lists c.args.words.now)) aggregate_first (lent_lists c.args.words.now) c.in_default.ensures
    ∙ ap (λ (items : List Aggregate). (items, lent_lists c.args.words.now)) (sym c.new-aggregates.ensures.items)

pub loop-init : goal.loop-init
unfolding aggregates_of
loop-init c =
    series-begun (get_first (lent_lists c.args.words.now)) aggregate_first (lent_lists c.args.words.now)
    (lent_lists c.in-Some.behind_first.now) c.in-Some.first _ (length c.in-Some.behind_first.now - 0) c.in-Some.ensures
    (c.in_ok-push.ensures.items ∙ ap (λ (items : List Aggregate). items ++ c.in-Some.first ∷ []) c.new-aggregates.ensures.items)
    (omega (arith, length-map c.in-Some.behind_first.now (λ word. word.now)))

pub loop-preserved : goal.loop-preserved
loop-preserved c =
    c.loop.invariant
    ∙ many-step aggregate_first (lent_lists c.loop.left.now) (lent_lists c.in-Some-aggregate_first.behind.now)
    c.in-Some-aggregate_first.aggregate c.loop.aggregates.items _ (length c.in-Some.behind_first.now - c.loop.counter)
    (length c.in-Some.behind_first.now - (c.loop.counter + 1)) c.in-Some-aggregate_first.ensures c.in_ok-push-2.ensures.items (omega arith)

pub returns-in_default-aggregate_first : goal.returns-in_default-aggregate_first
returns-in_default-aggregate_first c =
    c.loop.invariant
    ∙ many-stopped aggregate_first (lent_lists c.loop.left.now) c.loop.aggregates.items
    (length c.in-Some.behind_first.now - c.loop.counter) c.in_default-aggregate_first.ensures

pub returns : goal.returns
returns c =
    c.loop.invariant
    ∙ many-done aggregate_first (lent_lists c.loop.left.now) c.loop.aggregates.items
    (length c.in-Some.behind_first.now - c.loop.counter) (omega arith)
