-- As many rows as before.
use Rattle.std.proofs.Common.{rules, ◌≡◌, ◌≤◌, ◌++◌, length, take, drop, sym, ap, subst, ◌∙◌, arith}
use Rattle.apply.specs.Inner.Joins.{joined, ends_from, AreBlocks}
use Rattle.apply.specs.Limits.{rows_max}
use Rattle.apply.proofs.Counted.{refilled}
use Rattle.apply.proofs.Joined.{length-with_patch}
use Rattle.apply.proofs.piece.PieceTableRows.patch.Goals as goal

pub invariant_of-self : goal.invariant_of-self
invariant_of-self c =
    let items = c.self.inside.blocks.items in
    let news = c.patch_row.new.blocks in
    let whole : take c.self.inside.blocks.len (news ++ drop (length news) items) ≡ news =
    refilled c.self.inside.blocks.len items news (sym (ap length c.as_mut_slice.ensures.value) ∙ c.as_mut_slice.ensures.len)
    (c.patch_row.ensures.len ∙ ap length c.as_mut_slice.ensures.value) in
    let same : length (joined news) ≡ length (joined items) =
    ap length c.patch_row.ensures.rows
    ∙ length-with_patch c.as_slice.result.now (joined c.as_mut_slice.result.now) c.args.row c.args.offset c.args.bytes.now
    ∙ ap (λ blocks. length (joined blocks)) c.as_mut_slice.ensures.value in
    let are : AreBlocks c.self.inside.kinds news = search rules in
    record {
      columns = c.self.invariant.columns;
      blocks = subst (AreBlocks c.self.inside.kinds) (sym whole) are;
      ends = c.self.invariant.ends
          ∙ sym (ap (ends_from 0) whole ∙ c.patch_row.ensures.ends ∙ ap (ends_from 0) c.as_mut_slice.ensures.value);
      few = subst (λ blocks. length (joined blocks) ≤ rows_max) (sym whole) (omega (arith, same, c.self.invariant.few));
    }
