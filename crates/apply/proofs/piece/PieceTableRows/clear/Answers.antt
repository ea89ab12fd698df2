-- No block is left, and the first kinds are those that a table may have.
use Rattle.std.proofs.Common.{◌≤◌, length, take, sym, ap, subst, ◌∙◌, arith}
use Rattle.rows.specs.Shape.{AreColumns}
use Rattle.rows.specs.Tables.{Table}
use Rattle.apply.specs.Inner.Joins.{joined, ends_from, AreBlocks}
use Rattle.apply.specs.Limits.{rows_max}
use Rattle.apply.proofs.piece.PieceTableRows.clear.Goals as goal

pub invariant_of-self : goal.invariant_of-self
invariant_of-self c =
    let kinds = ap (λ (table : Table). table.kinds) c.self.view_is in
    let none = c.clear.ensures.items in
    record {
      columns = subst AreColumns (sym (c.truncate.ensures ∙ ap (take c.args.columns) kinds)) c.requires;
      blocks = subst (AreBlocks c.truncate.new.self) (sym none) (record {
        alike = λ k d lt. absurd (omega (arith, lt));
        some = λ k d lt. absurd (omega (arith, lt));
        rise = tt;
      });
      ends = c.clear-2.ensures.items ∙ sym (ap (ends_from 0) none);
      few = subst (λ blocks. length (joined blocks) ≤ rows_max) (sym none) (omega arith);
    }

pub returns : goal.returns
returns c =
    let kinds = c.truncate.ensures ∙ ap (λ (table : Table). take c.args.columns table.kinds) c.self.view_is in
    λ i. record { kinds = kinds i; rows = joined (c.clear.ensures.items i) }
