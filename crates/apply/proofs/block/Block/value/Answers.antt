use Rattle.std.proofs.Common.{rules, ◌≡◌, ◌<◌, length, Some, slice_get, get_or, refl, sym, ap, ◌∙◌, arith}
use Rattle.rows.specs.Tables.{Table}
use Rattle.apply.specs.Columns.{kind_of, values_in}
use Rattle.std.proofs.lemmas.List.{length-map}
use Rattle.apply.proofs.Beside.{rows-cell}
use Rattle.apply.proofs.Built.{IsTable, table-length}
use Rattle.apply.proofs.block.Block.value.Goals as goal

pub get-requires-clause-within : goal.get-requires-clause-within
get-requires-clause-within c =
    let is : IsTable c.self.inside.ids.items c.self.inside.columns.items =
    record { cells = c.self.invariant.cells; rise = c.self.invariant.rise } in
    let many : c.len.result ≡ length c.self.inside.ids.items = search rules in
    let rows = table-length c.self.inside.ids.items c.self.inside.columns.items is in
    let seen = ap (λ (table : Table). length table.rows) c.self.view_is in
    omega (arith, many, rows, seen, c.requires.within)

pub returns : goal.returns
returns c =
    let ids = c.self.inside.ids.items in
    let columns = c.self.inside.columns.items in
    let is : IsTable ids columns = record { cells = c.self.invariant.cells; rise = c.self.invariant.rise } in
    let many : c.len.result ≡ length ids = search rules in
    let rows = table-length ids columns is in
    let seen = ap (λ (table : Table). length table.rows) c.self.view_is in
    let kinds = ap (λ (table : Table). length table.kinds) c.self.view_is in
    let column : c.args.column < length columns = omega (arith, kinds, length-map columns kind_of, c.requires.column) in
    let read : c.index.result.now ≡ get_or columns c.args.column c.index.result.now = search rules in
    let found = rows-cell (length ids) ids columns c.args.at c.args.column c.index.result.now refl is.cells
    (omega (arith, rows, seen, c.requires.within)) column in
    let got : Some c.get.result ≡ slice_get (values_in (length ids) (get_or columns c.args.column c.index.result.now)) c.args.at =
    rw (← many, ← read) c.get.ensures in
    rw (← c.self.view_is) (got ∙ sym found)
