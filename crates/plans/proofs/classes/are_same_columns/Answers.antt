-- One column more is the same; and at the end all are.
use Rattle.std.proofs.Common.{◌<◌, ◌≤◌, ◌∙◌, length, sym, arith}
use Rattle.std.proofs.lemmas.List.{take_more_same, take_all, get_or_default}
use Rattle.queries.specs.declared.column.Column.{Column}
use Rattle.queries.specs.declared.column.Column.TheVariants.{Own}
use Rattle.plans.proofs.classes.are_same_columns.Goals as goal

pub loop-index-preserved : goal.loop-index-preserved
loop-index-preserved c =
    let columns = c.args.columns.now in
    let others = c.args.others.now in
    let i = c.loop-index.index in
    let any : Column = Own 0 in
    let first : i < length columns = c.loop-index-test.true in
    let second : i < length others = omega (arith, first, c.if-columns-others.false) in
    take_more_same columns others i any first second c.loop-index.invariant
    (get_or_default columns i any _ first ∙ c.is_same_column.ensures c.if-not-is_same_column.false ∙ get_or_default others i _ any second)

pub returns : goal.returns
returns c = λ same.
    let columns = c.args.columns.now in
    let others = c.args.others.now in
    let i = c.loop-index.index in
    let all : length columns ≤ i = c.loop-index-test.false in
    sym (take_all i columns all) ∙ c.loop-index.invariant ∙ take_all i others (omega (arith, all, c.if-columns-others.false))
