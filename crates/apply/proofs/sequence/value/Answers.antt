-- The block has the row at what is left of the position.
use Rattle.std.proofs.Common.{length, ap, sym, ◌∙◌, arith}
use Rattle.rows.specs.Tables.{Table}
use Rattle.apply.specs.Blocks.{cell_in}
use Rattle.apply.proofs.Ended.{joined-cell}
use Rattle.apply.proofs.sequence.value.Goals as goal

pub value-requires-clause-within : goal.value-requires-clause-within
value-requires-clause-within c =
    let many = ap (λ (block : Table). length block.rows) c.index-blocks-block.is in
    omega (arith, c.index_of-block.ensures.index c.index-blocks-block.result, many)

pub value-requires-clause-column : goal.value-requires-clause-column
value-requires-clause-column c =
    let kinds = ap (λ (block : Table). block.kinds) c.index-blocks-block.is
    ∙ c.requires.blocks.alike c.index_of-block.result.0 c.index-blocks-block.result c.index_of-block.ensures.block in
    omega (arith, ap length kinds, c.requires.column)

pub returns : goal.returns
returns c =
    let d = c.index-blocks-block.result in
    c.value.ensures ∙ ap (λ (block : Table). cell_in block.rows c.index_of-block.result.1 c.args.column) c.index-blocks-block.is
    ∙ sym (joined-cell c.args.blocks.now c.index_of-block.result.0 c.args.at c.index_of-block.result.1 c.args.column d
    c.index_of-block.ensures.block
    c.index_of-block.ensures.position (c.index_of-block.ensures.index d))
