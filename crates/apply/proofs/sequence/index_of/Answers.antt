-- The block has the row at what is left of the position.
use Rattle.std.proofs.Common.{◌≡◌, suc, ◌+◌, ◌-◌, ◌<◌, length, take, get_or, ap, ◌∙◌, arith}
use Rattle.std.proofs.lemmas.List.{take_all}
use Rattle.rows.specs.Tables.{Table}
use Rattle.apply.specs.Inner.Joins.{joined, end_before}
use Rattle.apply.proofs.Counted.{joined-more}
use Rattle.apply.proofs.Ended.{end-before, ends-length}
use Rattle.apply.proofs.sequence.index_of.Goals as goal
use Rattle.apply.proofs.sequence.index_of.Goals.{After-rows_before}

pub block_at-block-requires : goal.block_at-block-requires
block_at-block-requires c =
    let blocks = c.args.blocks.now in
    let many : length c.args.ends.now ≡ length blocks = ap length c.requires.ends ∙ ends-length 0 blocks in
    let all : end_before c.args.ends.now (length c.args.ends.now) ≡ length (joined blocks) =
    ap (λ ends. end_before ends (length c.args.ends.now)) c.requires.ends
    ∙ end-before (length c.args.ends.now) blocks (omega (arith, many))
    ∙ ap (λ front. length (joined front)) (take_all (length c.args.ends.now) blocks (omega (arith, many))) in
    omega (arith, all, c.requires.within)

within : (c : After-rows_before) → c.block_at-block.result < length c.args.blocks.now
within c = omega (arith, c.block_at-block.ensures.within, ap length c.requires.ends, ends-length 0 c.args.blocks.now)

-- how many rows stand before the block
before : (c : After-rows_before) → c.rows_before.result ≡ length (joined (take c.block_at-block.result c.args.blocks.now))
before c =
    c.rows_before.ensures ∙ ap (λ ends. end_before ends c.block_at-block.result) c.requires.ends
    ∙ end-before c.block_at-block.result c.args.blocks.now (omega (arith, within c))

-- the position is among the block's
behind : (c : After-rows_before) (d : Table)
    → c.args.at - c.rows_before.result < length (get_or c.args.blocks.now c.block_at-block.result d).rows
behind c d =
    let blocks = c.args.blocks.now in
    let b = c.block_at-block.result in
    let next : suc b ≡ b + 1 = omega arith in
    let end : end_before c.args.ends.now (suc b) ≡ length (joined (take (b + 1) blocks)) =
    ap (λ ends. end_before ends (suc b)) c.requires.ends ∙ end-before (suc b) blocks (omega (arith, within c))
    ∙ ap (λ k. length (joined (take k blocks))) next in
    omega (
      arith,
      end,
      joined-more blocks b d (within c),
      before c,
      c.block_at-block.ensures.above,
      c.block_at-block.ensures.below,
      c.rows_before.ensures,
    )

pub returns-clause-block : goal.returns-clause-block
returns-clause-block c = within c

pub returns-clause-index : goal.returns-clause-index
returns-clause-index c = λ d. behind c d

pub returns-clause-position : goal.returns-clause-position
returns-clause-position c = omega (arith, before c, c.block_at-block.ensures.below, c.rows_before.ensures)
