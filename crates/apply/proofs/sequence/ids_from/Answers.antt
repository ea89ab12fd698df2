-- The identifiers of the block from the row on.
use Rattle.std.proofs.Common.{◌≡◌, drop, get_or, ap, ◌∙◌}
use Rattle.std.specs.Map.{keys_of}
use Rattle.rows.specs.Tables.{Table}
use Rattle.apply.proofs.Lent.{lends-ids}
use Rattle.apply.proofs.sequence.ids_from.Goals as goal

pub returns-clause-value : goal.returns-clause-value
returns-clause-value c =
    let d = c.index-blocks-block.result in
    let b = c.index_of-block.result.0 in
    let i = c.index_of-block.result.1 in
    let lent : c.split_at.result.1.now ≡ drop i (keys_of (get_or c.args.blocks.now b d).rows) =
    c.split_at.ensures.back
    ∙ ap (drop i) (c.ids.ensures.value ∙ ap (λ (block : Table). keys_of block.rows) c.index-blocks-block.is) in
    lends-ids c.args.blocks.now b c.args.at i d c.split_at.result.1.now c.index_of-block.ensures.block
    c.index_of-block.ensures.position (c.index_of-block.ensures.index d) lent
