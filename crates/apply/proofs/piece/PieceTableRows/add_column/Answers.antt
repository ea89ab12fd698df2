-- Each block has the column, or all are as they were.
use Rattle.std.proofs.Common.{◌≡◌, ◌≤◌, ◌++◌, ◌∷◌, [], length, map, take, drop, sym, ap, subst, ◌∙◌, arith}
use Rattle.std.proofs.lemmas.List.{length-map}
use Rattle.rows.specs.Shape.{AreColumns}
use Rattle.rows.specs.Tables.{Table}
use Rattle.rows.specs.Values.{kind_of}
use Rattle.apply.specs.Blocks.{wider}
use Rattle.apply.specs.Inner.Joins.{joined, ends_from, AreBlocks}
use Rattle.apply.specs.Limits.{rows_max}
use Rattle.apply.proofs.Counted.{refilled}
use Rattle.apply.proofs.Rebuilt.{all-many, all-ends, all-blocks, wider-keys, joined-wider}
use Rattle.apply.proofs.piece.PieceTableRows.add_column.Goals as goal
use Rattle.apply.proofs.piece.PieceTableRows.add_column.Goals.{In_ok-add_column}

made : (c : In_ok-add_column)
    → take c.self.inside.blocks.len (c.add_column.new.blocks ++ drop (length c.add_column.new.blocks) c.self.inside.blocks.items)
    ≡ map (wider c.args.default) c.self.inside.blocks.items
made c =
    let items = c.self.inside.blocks.items in
    let wide = wider c.args.default in
    let news : c.add_column.new.blocks ≡ map wide items = c.in_ok-add_column.ensures.ok ∙ ap (map wide) c.as_mut_slice.ensures.value in
    refilled c.self.inside.blocks.len items c.add_column.new.blocks
    (sym (ap length c.as_mut_slice.ensures.value) ∙ c.as_mut_slice.ensures.len)
    (ap length news ∙ length-map items wide)
    ∙ news

-- with the new kinds behind the others
kinds : (c : In_ok-add_column) → c.in_ok-kinds.kinds ≡ c.self.inside.kinds ++ kind_of c.args.default ∷ []
kinds c = c.in_ok-kinds.ensures ∙ ap (λ kind. c.self.inside.kinds ++ kind ∷ []) c.kind.ensures.kind

pub invariant_of-self-2 : goal.invariant_of-self-2
invariant_of-self-2 c =
    let at = (goal.at.invariant_of-self-2 c).In_ok-add_column in
    let items = c.self.inside.blocks.items in
    let was = c.self.inside.kinds in
    let kind = kind_of c.args.default in
    let wide = wider c.args.default in
    let same = wider-keys c.args.default in
    let all = made at in
    let may : AreColumns (was ++ kind ∷ []) =
    subst (λ (table : Table). AreColumns (table.kinds ++ kind ∷ [])) (sym c.self.view_is) c.requires in
    record {
      columns = subst AreColumns (sym (kinds at)) may;
      blocks = subst (AreBlocks c.in_ok-kinds.kinds) (sym all)
          (subst (λ kinds. AreBlocks kinds (map wide items)) (sym (kinds at))
          (all-blocks wide same was (was ++ kind ∷ []) items (λ block same. ap (λ kinds. kinds ++ kind ∷ []) same)
          c.self.invariant.blocks));
      ends = c.self.invariant.ends ∙ sym (ap (ends_from 0) all ∙ all-ends wide same 0 items);
      few = subst (λ blocks. length (joined blocks) ≤ rows_max) (sym all) (omega (arith, all-many wide same items, c.self.invariant.few));
    }

pub returns-clause-ok : goal.returns-clause-ok
returns-clause-ok c =
    let at = (goal.at.returns-clause-ok c).In_ok-add_column in
    let rows = ap joined (made at) ∙ joined-wider c.args.default c.self.inside.blocks.items in
    rw (← c.self.view_is) (λ i. record { kinds = kinds at i; rows = rows i })
