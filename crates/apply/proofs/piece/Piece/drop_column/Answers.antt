-- Each block is without the column.
use Rattle.std.proofs.Common.{◌≡◌, ◌-◌, ◌<◌, ◌≤◌, ◌++◌, length, map, take, drop, sym, ap, subst, ◌∙◌, arith}
use Rattle.std.proofs.lemmas.List.{length-map}
use Rattle.rows.specs.Shape.{AreColumns}
use Rattle.rows.specs.Tables.{Table}
use Rattle.apply.specs.Blocks.{narrower}
use Rattle.apply.specs.Inner.Joins.{joined, ends_from, AreBlocks}
use Rattle.apply.specs.Limits.{rows_max}
use Rattle.apply.proofs.Counted.{refilled}
use Rattle.apply.proofs.Rebuilt.{all-many, all-ends, all-blocks, narrower-keys, joined-narrower, columns-front}
use Rattle.apply.proofs.piece.Piece.drop_column.Goals as goal
use Rattle.apply.proofs.piece.Piece.drop_column.Goals.{After-drop_column}

made : (c : After-drop_column)
    → take c.self.inside.blocks.len (c.drop_column.new.blocks ++ drop (length c.drop_column.new.blocks) c.self.inside.blocks.items)
    ≡ map narrower c.self.inside.blocks.items
made c =
    let items = c.self.inside.blocks.items in
    let news : c.drop_column.new.blocks ≡ map narrower items =
    c.drop_column.ensures ∙ ap (map narrower) c.as_mut_slice.ensures.value in
    refilled c.self.inside.blocks.len items c.drop_column.new.blocks
    (sym (ap length c.as_mut_slice.ensures.value) ∙ c.as_mut_slice.ensures.len)
    (ap length news ∙ length-map items narrower)
    ∙ news

pub invariant_of-self : goal.invariant_of-self
invariant_of-self c =
    let items = c.self.inside.blocks.items in
    let kinds = c.self.inside.kinds in
    let fewer = c.pop.ensures in
    let all = made (goal.at.invariant_of-self c).After-drop_column in
    let two : 1 < length kinds = omega (arith, ap (λ (table : Table). length table.kinds) c.self.view_is, c.requires) in
    record {
      columns = subst AreColumns (sym fewer) (columns-front kinds two c.self.invariant.columns);
      blocks = subst (AreBlocks c.pop.new.self) (sym all)
          (subst (λ kinds. AreBlocks kinds (map narrower items)) (sym fewer)
          (all-blocks narrower narrower-keys kinds (take (length kinds - 1) kinds) items
          (λ block same. ap (λ kinds. take (length kinds - 1) kinds) same) c.self.invariant.blocks));
      ends = c.self.invariant.ends ∙ sym (ap (ends_from 0) all ∙ all-ends narrower narrower-keys 0 items);
      few = subst (λ blocks. length (joined blocks) ≤ rows_max) (sym all)
          (omega (arith, all-many narrower narrower-keys items, c.self.invariant.few));
    }

pub returns : goal.returns
returns c =
    let rows = ap joined (made (goal.at.returns c).After-drop_column) ∙ joined-narrower c.self.inside.blocks.items in
    rw (← c.self.view_is) (λ i. record { kinds = c.pop.ensures i; rows = rows i })
