-- The rows from the position on are those of the block from the index on.
use Rattle.std.proofs.Common.{◌+◌, ◌≤◌, length, get_or, sym, ap, subst, ◌∙◌, arith}
use Rattle.std.proofs.lemmas.List.{get_or_default}
use Rattle.rows.specs.Tables.{Rows, Table}
use Rattle.store.specs.Lent.{rows_from, column_in, AreLent}
use Rattle.apply.proofs.Lent.{joined-from}
use Rattle.apply.proofs.sequence.column_from.Goals as goal

pub returns : goal.returns
returns c =
    let blocks = c.args.blocks.now in
    let first = c.index-blocks-block.result in
    let d = c.index-blocks-block-2.result in
    let b = c.index_of-block.result.0 in
    let i = c.index_of-block.result.1 in
    let many = ap (λ (block : Table). length block.rows)
    (c.index-blocks-block.is ∙ get_or_default blocks b first d c.index_of-block.ensures.block) in
    let enough : i + c.args.count ≤ length (get_or blocks b d).rows =
    omega (arith, many, c.len.ensures, c.if-len-index.false, c.index_of-block.ensures.index d) in
    let own = ap (λ (block : Table). rows_from block.rows i c.args.count) c.index-blocks-block-2.is in
    subst (λ (rows : Rows). AreLent (column_in rows c.args.column) c.column_from.result)
    (own ∙ sym (joined-from blocks b c.args.at i c.args.count d c.index_of-block.ensures.block c.index_of-block.ensures.position enough))
    c.column_from.ensures
