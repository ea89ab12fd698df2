-- The cells of these rows are those of the column.
use Rattle.std.proofs.Common.{rules, ◌≡◌, ◌<◌, length, map, take, drop, Some, get_or, refl, ap, subst, arith}
use Rattle.std.proofs.lemmas.List.{length-map}
use Rattle.rows.specs.Tables.{Table}
use Rattle.store.specs.Lent.{AreLent}
use Rattle.apply.specs.Columns.{kind_of, values_in}
use Rattle.apply.proofs.Built.{IsTable, table-length}
use Rattle.apply.proofs.Lent.{rows-column-from}
use Rattle.apply.proofs.block.Block.column_from.Goals as goal

pub values_from-requires-clause-within : goal.values_from-requires-clause-within
values_from-requires-clause-within c =
    let is : IsTable c.self.inside.ids.items c.self.inside.columns.items =
    record { cells = c.self.invariant.cells; rise = c.self.invariant.rise } in
    let many : c.len.result ≡ length c.self.inside.ids.items = search rules in
    let rows = table-length c.self.inside.ids.items c.self.inside.columns.items is in
    let seen = ap (λ (table : Table). length table.rows) c.self.view_is in
    omega (arith, many, rows, seen, c.requires.within)

pub returns : goal.returns
returns c =
    let ids = c.self.inside.ids.items in
    let columns = c.self.inside.columns.items in
    let many : c.len.result ≡ length ids = search rules in
    let kinds = ap (λ (table : Table). length table.kinds) c.self.view_is in
    let column : c.args.column < length columns = omega (arith, kinds, length-map columns kind_of, c.requires.column) in
    let read : c.index.result.now ≡ get_or columns c.args.column c.index.result.now = search rules in
    let same = rows-column-from (length ids) ids columns c.args.column c.args.from c.args.count c.index.result.now refl
    c.self.invariant.cells column in
    let lent : AreLent
    (map Some (take c.args.count (drop c.args.from (values_in (length ids) (get_or columns c.args.column c.index.result.now)))))
    c.values_from.result = rw (← many, ← read) c.values_from.ensures in
    rw (← c.self.view_is) (subst (λ cells. AreLent cells c.values_from.result) same lent)
