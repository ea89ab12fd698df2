-- Those up to the end of the last block.
use Rattle.std.proofs.Common.{◌≡◌, length, ap, ◌∙◌, arith}
use Rattle.std.proofs.lemmas.List.{take_all}
use Rattle.rows.specs.Tables.{Table}
use Rattle.apply.specs.Inner.Joins.{joined, end_before}
use Rattle.apply.proofs.Ended.{end-before, ends-length}
use Rattle.apply.proofs.piece.Piece.len.Goals as goal
use Rattle.apply.proofs.piece.Piece.len.Goals.{After-rows_before}

counted : (c : After-rows_before) → c.rows_before.result ≡ length (joined c.self.inside.blocks.items)
counted c =
    let blocks = c.self.inside.blocks.items in
    let many : c.len.result ≡ length blocks =
    omega (
      arith,
      c.len.ensures,
      c.as_slice.ensures.len,
      ap length (c.as_slice.ensures.value ∙ c.self.invariant.ends),
      ends-length 0 blocks,
    ) in
    c.rows_before.ensures
    ∙ ap (λ ends. end_before ends c.len.result) (c.as_slice.ensures.value ∙ c.self.invariant.ends)
    ∙ end-before c.len.result blocks (omega (arith, many))
    ∙ ap (λ front. length (joined front)) (take_all c.len.result blocks (omega (arith, many)))

pub returns-clause-value : goal.returns-clause-value
returns-clause-value c = counted c ∙ ap (λ (piece : Table). length piece.rows) c.self.view_is

pub returns-clause-few : goal.returns-clause-few
returns-clause-few c = omega (arith, counted c, c.self.invariant.few)
