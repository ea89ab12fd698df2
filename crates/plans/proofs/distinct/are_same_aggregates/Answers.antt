-- One aggregate more is the same; and at the end all are.
use Rattle.std.proofs.Common.{◌<◌, ◌≤◌, ◌∙◌, length, sym, arith}
use Rattle.std.proofs.lemmas.List.{take_more_same, take_all, get_or_default}
use Rattle.queries.specs.declared.aggregate.Aggregate.{Aggregate}
use Rattle.queries.specs.declared.aggregate.Aggregate.TheVariants.{Count}
use Rattle.plans.proofs.distinct.are_same_aggregates.Goals as goal

pub loop-index-preserved : goal.loop-index-preserved
loop-index-preserved c =
    let items = c.args.aggregates.now in
    let others = c.args.others.now in
    let i = c.loop-index.index in
    let any : Aggregate = Count in
    let first : i < length items = c.loop-index-test.true in
    let second : i < length others = omega (arith, first, c.if-aggregates-others.false) in
    take_more_same items others i any first second c.loop-index.invariant
    (get_or_default items i any _ first ∙ c.is_same_aggregate.ensures c.if-not-is_same_aggregate.false ∙ get_or_default others i _ any
    second)

pub returns : goal.returns
returns c = λ same.
    let items = c.args.aggregates.now in
    let others = c.args.others.now in
    let i = c.loop-index.index in
    let all : length items ≤ i = c.loop-index-test.false in
    sym (take_all i items all) ∙ c.loop-index.invariant ∙ take_all i others (omega (arith, all, c.if-aggregates-others.false))
