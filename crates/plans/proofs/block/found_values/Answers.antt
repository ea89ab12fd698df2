-- Each row is there, and has the column.
use Rattle.std.proofs.Common.{slice_index_or, ◌∙◌, arith}
use Rattle.rows.specs.Tables.{rows_of}
use Rattle.plans.proofs.Blocks.{column-there, read-more, read-all}
use Rattle.plans.proofs.block.found_values.Goals as goal

pub found_value-requires-clause-there : goal.found_value-requires-clause-there
found_value-requires-clause-there g c = λ _ _.
    let ids = c.args.block.now.ids.now in
    column-there (g.S.Store.tables c.args.store.now) c.args.block.now.table (slice_index_or ids c.loop-id.id-index 0) c.args.column
    (c.keeps_kinds.ensures c.requires.whole) (c.requires.block.there c.loop-id.id-index 0 c.loop-id-test.true) c.requires.column

pub loop-id-preserved : goal.loop-id-preserved
loop-id-preserved g c =
    c.in_ok-push.ensures.items
    ∙ read-more (rows_of (g.S.Store.tables c.args.store.now) c.args.block.now.table) c.args.column c.args.block.now.ids.now
    c.loop-id.id-index c.loop-id.values.items c.found_value.result c.loop-id-test.true c.loop-id.invariant c.found_value.ensures

pub returns : goal.returns
returns g c =
    read-all (g.S.Store.tables c.args.store.now) c.args.block.now c.args.column c.loop-id.id-index c.loop-id.values.items
    (omega (arith, c.loop-id-test.false)) c.loop-id.invariant
