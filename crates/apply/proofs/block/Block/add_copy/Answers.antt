-- One column more, behind the others.
use Rattle.std.proofs.Common.{◌≡◌, ℕ, ◌∷◌, [], ◌++◌, length, rules, sym, ap, subst, ◌∙◌, arith}
use Rattle.rows.specs.Tables.{Table}
use Rattle.apply.specs.Blocks.{table_with, wider}
use Rattle.apply.specs.Columns.{IsFilled}
use Rattle.apply.proofs.Built.{IsTable, table-length}
use Rattle.apply.proofs.Widened.{table-wider}
use Rattle.apply.proofs.block.Block.add_copy.Goals as goal
use Rattle.apply.proofs.block.Block.add_copy.Goals.{In_ok-push}

pub copy_filled-requires-clause-within : goal.copy_filled-requires-clause-within
copy_filled-requires-clause-within c =
    let ids = c.self.inside.ids.items in
    let columns = c.self.inside.columns.items in
    let is : IsTable ids columns = record { cells = c.self.invariant.cells; rise = c.self.invariant.rise } in
    let many : c.len.result ≡ length ids = search rules in
    let seen = ap (λ (table : Table). length table.rows) c.self.view_is in
    omega (arith, many, table-length ids columns is, seen, c.requires.within)

more : (c : In_ok-push) → IsTable c.self.inside.ids.items c.push.new.self.items
    × (table_with c.self.inside.ids.items c.push.new.self.items
    ≡ wider c.args.default.now (table_with c.self.inside.ids.items c.self.inside.columns.items))
more c =
    let ids = c.self.inside.ids.items in
    let columns = c.self.inside.columns.items in
    let column = c.in_ok-column.column in
    let is : IsTable ids columns = record { cells = c.self.invariant.cells; rise = c.self.invariant.rise } in
    let many : c.len.result ≡ length ids = search rules in
    let filled = subst (λ (n : ℕ). IsFilled n c.args.default.now column) many c.in_ok-column.ensures in
    let both = table-wider ids columns c.args.default.now column is filled in
    let items : c.push.new.self.items ≡ columns ++ column ∷ [] = c.in_ok-push.ensures.items in (
      subst (IsTable ids) (sym items) both.0,
      ap (table_with ids) items ∙ both.1,
    )

pub invariant_of-self-2 : goal.invariant_of-self-2
invariant_of-self-2 c = let is = (more (goal.at.invariant_of-self-2 c).In_ok-push).0 in record { cells = is.cells; rise = is.rise }

pub returns-clause-ok : goal.returns-clause-ok
returns-clause-ok c = rw (← c.self.view_is) (more (goal.at.returns-clause-ok c).In_ok-push).1
