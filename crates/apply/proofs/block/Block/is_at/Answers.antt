use Rattle.std.proofs.Common.{rules, ◌≡◌, length, get_or, sym, ap, ◌∙◌, arith}
use Rattle.std.specs.Map.{keys_of}
use Rattle.std.proofs.lemmas.Bool.Decides.{nat_tests}
use Rattle.rows.specs.Tables.{Table}
use Rattle.apply.specs.Orders.{place_in}
use Rattle.std.proofs.lemmas.List.{get_or_default}
use Rattle.apply.proofs.Ordered.{present-at, absent-past}
use Rattle.apply.proofs.Built.{IsTable, rows_in, table-keys, table-length}
use Rattle.apply.proofs.block.Block.is_at.Goals as goal

pub returns-then-at-len : goal.returns-then-at-len
returns-then-at-len c =
    let ids = c.self.inside.ids.items in
    let columns = c.self.inside.columns.items in
    let is : IsTable ids columns = record { cells = c.self.invariant.cells; rise = c.self.invariant.rise } in
    let many : c.len.result ≡ length ids = search rules in
    let rows = table-length ids columns is in
    let place : c.args.at ≡ place_in (rows_in ids columns) c.args.row =
    c.requires ∙ sym (ap (λ (table : Table). place_in table.rows c.args.row) c.self.view_is) in
    let at : c.index.result.now ≡ get_or (keys_of (rows_in ids columns)) (place_in (rows_in ids columns) c.args.row) 0 =
    rw (← place, table-keys ids columns is)
    (c.index.ensures ∙ get_or_default ids c.args.at c.index.result.now 0 (omega (arith, many, c.if-at-len.true))) in
    rw (← c.self.view_is)
    (present-at c.args.row (rows_in ids columns) c.index.result.now 0 is.rise (omega (arith, many, rows, place, c.if-at-len.true)) at)

pub returns-else-at-len : goal.returns-else-at-len
returns-else-at-len c =
    let ids = c.self.inside.ids.items in
    let columns = c.self.inside.columns.items in
    let is : IsTable ids columns = record { cells = c.self.invariant.cells; rise = c.self.invariant.rise } in
    let many : c.len.result ≡ length ids = search rules in
    let rows = table-length ids columns is in
    let place : c.args.at ≡ place_in (rows_in ids columns) c.args.row =
    c.requires ∙ sym (ap (λ (table : Table). place_in table.rows c.args.row) c.self.view_is) in
    let none = absent-past c.args.row (rows_in ids columns) is.rise (omega (arith, many, rows, place, c.if-at-len.false)) in
    rw (← c.self.view_is, none) (grind (arith, nat_tests, c.if-at-len.false))
