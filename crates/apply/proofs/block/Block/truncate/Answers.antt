use Rattle.std.proofs.Common.{rules, ◌≡◌, length, take, ap, arith}
use Rattle.std.specs.Vec.{with_items}
use Rattle.std.proofs.lemmas.List.{with_items_is}
use Rattle.rows.specs.Tables.{Table}
use Rattle.apply.specs.Blocks.{kinds_with, table_with}
use Rattle.apply.specs.Inner.Edits.{Each, IsFront}
use Rattle.apply.proofs.Built.{IsTable, rows_in, written, table-length, table-take}
use Rattle.apply.proofs.block.Block.truncate.Goals as goal
use Rattle.apply.proofs.block.Block.truncate.Goals.{After-truncate_rows}

pub truncate_rows-requires-clause-within : goal.truncate_rows-requires-clause-within
truncate_rows-requires-clause-within c =
    let is : IsTable c.self.inside.ids.items c.self.inside.columns.items =
    record { cells = c.self.invariant.cells; rise = c.self.invariant.rise } in
    let many : c.len-rows.result ≡ length c.self.inside.ids.items = search rules in
    let rows = table-length c.self.inside.ids.items c.self.inside.columns.items is in
    let seen = ap (λ (table : Table). length table.rows) c.self.view_is in
    omega (arith, many, rows, seen, c.requires)

left : (c : After-truncate_rows) → IsTable c.truncate.new.self.items (with_items c.self.inside.columns c.truncate_rows.new.columns).items
    × (table_with c.truncate.new.self.items (with_items c.self.inside.columns c.truncate_rows.new.columns).items
    ≡ record {
      kinds = kinds_with c.self.inside.columns.items;
      rows =
          take c.args.at (rows_in c.self.inside.ids.items c.self.inside.columns.items);
    })
left c =
    let ids = c.self.inside.ids.items in
    let columns = c.self.inside.columns.items in
    let news = c.truncate_rows.new.columns in
    let is : IsTable ids columns = record { cells = c.self.invariant.cells; rise = c.self.invariant.rise } in
    let lent : c.as_mut_slice.result.now ≡ columns = c.as_mut_slice.ensures.value in
    let many : c.len-rows.result ≡ length ids = search rules in
    let rows = table-length ids columns is in
    let seen = ap (λ (table : Table). length table.rows) c.self.view_is in
    let each : Each (λ k. IsFront (length ids) c.args.at) (length columns) columns news =
    rw (← many, ← lent) c.truncate_rows.ensures.front in
    let few : length news ≡ length columns = rw (← lent) c.truncate_rows.ensures.len in
    written c.truncate.new.self.items news (with_items c.self.inside.columns news).items
    (record { kinds = kinds_with columns; rows = take c.args.at (rows_in ids columns) })
    (with_items_is c.self.inside.columns news (omega (arith, few, c.self.inside.columns.ok.0)))
    (table-take ids columns is c.truncate.new.self.items news c.args.at c.truncate.ensures.items
    (omega (arith, rows, seen, c.requires)) few each)

pub invariant_of-self : goal.invariant_of-self
invariant_of-self c = let is = (left (goal.at.invariant_of-self c).After-truncate_rows).0 in record { cells = is.cells; rise = is.rise }

pub returns : goal.returns
returns c = rw (← c.self.view_is) (left (goal.at.returns c).After-truncate_rows).1
