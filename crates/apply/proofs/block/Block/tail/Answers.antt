use Rattle.std.proofs.Common.{rules, ◌≡◌, length, drop, ap, arith}
use Rattle.rows.specs.Tables.{Table}
use Rattle.apply.specs.Columns.{IsTail}
use Rattle.apply.specs.Blocks.{kinds_with, table_with}
use Rattle.apply.specs.Inner.Edits.{Each}
use Rattle.apply.proofs.Built.{IsTable, rows_in, table-length, table-drop}
use Rattle.apply.proofs.block.Block.tail.Goals as goal
use Rattle.apply.proofs.block.Block.tail.Goals.{In_ok-rows_from}

pub split_at-requires : goal.split_at-requires
split_at-requires c =
    let is : IsTable c.self.inside.ids.items c.self.inside.columns.items =
    record { cells = c.self.invariant.cells; rise = c.self.invariant.rise } in
    let rows = table-length c.self.inside.ids.items c.self.inside.columns.items is in
    let seen = ap (λ (table : Table). length table.rows) c.self.view_is in
    omega (arith, rows, seen, c.requires, ap length c.as_slice.ensures.value)

cut : (c : In_ok-rows_from) → IsTable c.in_ok-from_slice.field-0.items c.in_ok-rows_from.field-0.items
    × (table_with c.in_ok-from_slice.field-0.items c.in_ok-rows_from.field-0.items
    ≡ record {
      kinds = kinds_with c.self.inside.columns.items;
      rows =
          drop c.args.at (rows_in c.self.inside.ids.items c.self.inside.columns.items);
    })
cut c =
    let ids = c.self.inside.ids.items in
    let columns = c.self.inside.columns.items in
    let news = c.in_ok-rows_from.field-0.items in
    let is : IsTable ids columns = record { cells = c.self.invariant.cells; rise = c.self.invariant.rise } in
    let lent : c.as_slice-2.result.now ≡ columns = c.as_slice-2.ensures.value in
    let many : c.len.result ≡ length ids = search rules in
    let rows = table-length ids columns is in
    let seen = ap (λ (table : Table). length table.rows) c.self.view_is in
    let each : Each (λ k. IsTail (length ids) c.args.at) (length columns) columns news =
    rw (← many, ← lent) c.in_ok-rows_from.ensures.tail in
    let few : length news ≡ length columns = rw (← lent) c.in_ok-rows_from.ensures.len in
    let copied : c.in_ok-from_slice.field-0.items ≡ drop c.args.at ids = search rules in
    table-drop ids columns is c.in_ok-from_slice.field-0.items news c.args.at copied (omega (arith, rows, seen, c.requires)) few each

pub invariant_of-result : goal.invariant_of-result
invariant_of-result c = let is = (cut (goal.at.invariant_of-result c).In_ok-rows_from).0 in record { cells = is.cells; rise = is.rise }

pub returns : goal.returns
returns c = rw (← c.self.view_is) (cut (goal.at.returns c).In_ok-rows_from).1
