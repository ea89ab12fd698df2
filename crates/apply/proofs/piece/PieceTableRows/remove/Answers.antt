-- No row more.
use Rattle.std.proofs.Common.{rules, length, sym, ap, ◌∙◌, arith}
use Rattle.apply.specs.Inner.Joins.{joined}
use Rattle.apply.proofs.Counted.{fewer-without_row}
use Rattle.apply.proofs.Ordered.{without_row-absent}
use Rattle.apply.proofs.piece.PieceTableRows.remove.Goals as goal

pub invariant_of-self : goal.invariant_of-self
invariant_of-self c =
    let fewer = ap length c.remove_row.ensures.rows in
    record {
      columns = c.self.invariant.columns;
      blocks = search rules;
      ends = c.remove_row.ensures.ends;
      few = omega (arith, fewer, fewer-without_row c.args.row (joined c.self.inside.blocks.items), c.self.invariant.few);
    }

pub returns-clause-absent : goal.returns-clause-absent
returns-clause-absent c away =
    let rows = joined c.self.inside.blocks.items in
    let same = c.remove_row.ensures.rows ∙ without_row-absent c.args.row rows (sym c.remove_row.ensures.there ∙ away) in
    ap (λ left. record { kinds = c.self.inside.kinds; rows = left }) same ∙ c.self.view_is
