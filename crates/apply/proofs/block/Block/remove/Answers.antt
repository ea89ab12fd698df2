use Rattle.std.proofs.Common.{◌≡◌, length, true, nat_lt, sym, ap, ◌∙◌, arith, rules}
use Rattle.std.specs.List.{prefix_len}
use Rattle.std.specs.Vec.{with_items}
use Rattle.std.proofs.lemmas.List.{with_items_is}
use Rattle.rows.specs.Tables.{Table, is_present, without_row}
use Rattle.apply.specs.Blocks.{kinds_with, table_with}
use Rattle.apply.specs.Inner.Edits.{Each, IsTaken}
use Rattle.apply.specs.Orders.{place_in}
use Rattle.apply.proofs.Ordered.{there-within, without_row-absent}
use Rattle.apply.proofs.Built.{IsTable, rows_in, written, table-length, table-place, table-remove}
use Rattle.apply.proofs.block.Block.remove.Goals as goal
use Rattle.apply.proofs.block.Block.remove.Goals.{In-Some, After-remove_row}

-- the row is there, and this is its place
there : (c : In-Some) → is_present (rows_in c.self.inside.ids.items c.self.inside.columns.items) c.args.row ≡ true
there c = ap (λ (table : Table). is_present table.rows c.args.row) c.self.view_is ∙ sym c.in-Some.ensures.found

place : (c : In-Some) → c.in-Some.at ≡ prefix_len (λ id. nat_lt id c.args.row) c.self.inside.ids.items
place c =
    let is : IsTable c.self.inside.ids.items c.self.inside.columns.items =
    record { cells = c.self.invariant.cells; rise = c.self.invariant.rise } in
    c.in-Some.ensures.place ∙ sym (ap (λ (table : Table). place_in table.rows c.args.row) c.self.view_is)
    ∙ table-place c.self.inside.ids.items c.self.inside.columns.items is c.args.row

pub returns-in_default-clause-rows : goal.returns-in_default-clause-rows
returns-in_default-clause-rows c =
    ap (λ rows. record { kinds = c.args.self.now.kinds; rows = rows })
    (sym (without_row-absent c.args.row c.args.self.now.rows (sym c.in_default.ensures.found)))

pub remove-requires : goal.remove-requires
remove-requires c =
    let ids = c.self.inside.ids.items in
    let columns = c.self.inside.columns.items in
    let is : IsTable ids columns = record { cells = c.self.invariant.cells; rise = c.self.invariant.rise } in
    let at = (goal.at.remove-requires c).In-Some in
    let within = there-within c.args.row (rows_in ids columns) is.rise (there at) in
    omega (arith, within, table-length ids columns is, table-place ids columns is c.args.row, place at, c.self.inside.ids.ok.0)

taken : (c : After-remove_row) → c.in-Some.at ≡ prefix_len (λ id. nat_lt id c.args.row) c.self.inside.ids.items
    → is_present (rows_in c.self.inside.ids.items c.self.inside.columns.items) c.args.row ≡ true
    → IsTable c.remove.new.self.items (with_items c.self.inside.columns c.remove_row.new.columns).items
    × (table_with c.remove.new.self.items (with_items c.self.inside.columns c.remove_row.new.columns).items
    ≡ record {
      kinds = kinds_with c.self.inside.columns.items;
      rows = without_row (rows_in c.self.inside.ids.items c.self.inside.columns.items) c.args.row;
    })
taken c place there =
    let ids = c.self.inside.ids.items in
    let columns = c.self.inside.columns.items in
    let news = c.remove_row.new.columns in
    let is : IsTable ids columns = record { cells = c.self.invariant.cells; rise = c.self.invariant.rise } in
    let lent : c.as_mut_slice.result.now ≡ columns = c.as_mut_slice.ensures.value in
    let many : c.len-rows.result ≡ length ids = search rules in
    let each : Each (λ k. IsTaken (length ids) c.in-Some.at) (length columns) columns news =
    rw (← many, ← lent) c.remove_row.ensures.taken in
    let few : length news ≡ length columns = rw (← lent) c.remove_row.ensures.len in
    written c.remove.new.self.items news (with_items c.self.inside.columns news).items
    (record { kinds = kinds_with columns; rows = without_row (rows_in ids columns) c.args.row })
    (with_items_is c.self.inside.columns news (omega (arith, few, c.self.inside.columns.ok.0)))
    (table-remove ids columns is c.remove.new.self.items news c.args.row c.in-Some.at c.remove.ensures.items place there few each)

pub invariant_of-self : goal.invariant_of-self
invariant_of-self c =
    let at = (goal.at.invariant_of-self c).In-Some in
    let is = (taken (goal.at.invariant_of-self c).After-remove_row (place at) (there at)).0 in
    record { cells = is.cells; rise = is.rise }

pub returns-clause-rows : goal.returns-clause-rows
returns-clause-rows c =
    let at = (goal.at.returns-clause-rows c).In-Some in
    rw (← c.self.view_is) (taken (goal.at.returns-clause-rows c).After-remove_row (place at) (there at)).1
