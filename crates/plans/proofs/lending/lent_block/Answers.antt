-- The identifiers that are lent find the rows of the piece.
use Rattle.std.proofs.Common.{◌≤◌, true, length, arith}
use Rattle.rows.specs.Tables.{rows_of}
use Rattle.store.specs.Lent.{rows_in}
use Rattle.plans.specs.declared.block.Block.{Block}
use Rattle.plans.proofs.LentRows.{cut-lent, is-block}
use Rattle.plans.proofs.lending.lent_block.Goals as goal

pub last_rising-requires-clause-lent : goal.last_rising-requires-clause-lent
last_rising-requires-clause-lent g c = λ _ _.
    let here = rows_in (rows_of (g.S.Store.tables c.args.store.now) c.args.table) c.args.pieces c.args.piece in
    let le : c.min-count.result ≤ length c.in-Some.lent.now = omega (arith, c.min-count.ensures) in
    cut-lent here c.in-Some.lent.now c.split_at.result.0.now c.args.from c.min-count.result c.in-Some.ensures.value le
    c.split_at.ensures.front

pub returns-clause-block : goal.returns-clause-block
returns-clause-block g c =
    let tables = g.S.Store.tables c.args.store.now in
    let here = rows_in (rows_of tables c.args.table) c.args.pieces c.args.piece in
    let le : c.min-count.result ≤ length c.in-Some.lent.now = omega (arith, c.min-count.ensures) in
    let lent =
    cut-lent here c.in-Some.lent.now c.split_at.result.0.now c.args.from c.min-count.result c.in-Some.ensures.value le
    c.split_at.ensures.front in
    let block : Block = record {
      table = c.args.table;
      lends = true;
      pieces = c.args.pieces;
      piece = c.args.piece;
      from = c.args.from;
      ids = c.split_at.result.0;
    } in
    is-block tables block (omega (arith, c.split_at.ensures.front_len, c.min-count.ensures, c.requires.few)) c.requires.some lent
    c.in-Some-last_rising.ensures.found
