-- The value of one column more.
use Rattle.std.proofs.Common.{◌∙◌}
use Rattle.plans.proofs.ColumnValues.{key-more}
use Rattle.plans.proofs.row_numbers.fill_key.Goals as goal

pub loop-place-preserved : goal.loop-place-preserved
loop-place-preserved c =
    let i = c.loop-place.place-index in
    let there = c.requires.columns i 0 c.loop-place-test.true in
    c.in_ok-push.ensures.ok
    ∙ key-more c.args.columns.now c.args.places.now c.args.row i c.loop-place.key c.index-columns-place.result c.value.result
    c.loop-place-test.true there.0 c.index-columns-place.is c.value.ensures c.loop-place.invariant
