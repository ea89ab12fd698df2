-- What is lent are the values of the block's rows.
use Rattle.std.proofs.Common.{length}
use Rattle.rows.specs.Tables.{rows_of}
use Rattle.store.specs.Lent.{rows_in, rows_from, column_in}
use Rattle.plans.specs.Inner.Cells.{values_of}
use Rattle.plans.proofs.Blocks.{cells-of-block, lent-size}
use Rattle.plans.proofs.block.lent_cells.Goals as goal

pub returns-in-Some-found : goal.returns-in-Some-found
returns-in-Some-found g c =
    let tables = g.S.Store.tables c.args.store.now in
    let block = c.args.block.now in
    let rows = rows_from (rows_in (rows_of tables block.table) block.pieces block.piece) block.from (length block.ids.now) in
    let lent = rw c.in-Some-found.is at c.in_ok-found.ensures in
    cells-of-block tables block c.args.column (values_of c.in-Some-found.cells) c.requires.block c.requires.lends
    (lent (column_in rows c.args.column) (lent-size tables block c.args.column c.requires.block c.requires.lends) c.in-Some.ensures)
