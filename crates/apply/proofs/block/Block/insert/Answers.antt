use Rattle.std.proofs.Common.{rules, ◌≡◌, length, false, nat_lt, refl, ap, ◌∙◌, arith}
use Rattle.std.specs.List.{prefix_len}
use Rattle.std.specs.Vec.{with_items}
use Rattle.std.proofs.lemmas.List.{with_items_is}
use Rattle.rows.specs.Tables.{Table, is_present, with_row}
use Rattle.rows.specs.Values.{values_of}
use Rattle.apply.specs.Columns.{Keeps}
use Rattle.apply.specs.Blocks.{table_with}
use Rattle.apply.specs.Inner.Edits.{Each, IsPutIn}
use Rattle.apply.proofs.Built.{IsTable, rows_in, written, table-sorted, table-keeps, table-insert}
use Rattle.apply.proofs.block.Block.insert.Goals as goal
use Rattle.apply.proofs.block.Block.insert.Goals.{In_ok-reserve_row, After-insert_row}

pub invariant_of-self-in_err-reserve_row : goal.invariant_of-self-in_err-reserve_row
invariant_of-self-in_err-reserve_row c =
    let ids = c.self.inside.ids.items in
    let columns = c.self.inside.columns.items in
    let mids = c.reserve_row.new.columns in
    let is : IsTable ids columns = record { cells = c.self.invariant.cells; rise = c.self.invariant.rise } in
    let lent : c.as_mut_slice.result.now ≡ columns = c.as_mut_slice.ensures.value in
    let few : length mids ≡ length columns = rw (← lent) c.reserve_row.ensures.len in
    let each : Each (λ k. Keeps) (length columns) columns mids = rw (← lent) c.reserve_row.ensures.keeps in
    let back = with_items_is c.self.inside.columns mids (omega (arith, few, c.self.inside.columns.ok.0)) in
    let kept = (table-keeps ids columns is mids few each).0 in
    record { cells = rw (c.reserve_id.ensures.items, back) kept.cells; rise = rw (c.reserve_id.ensures.items, back) kept.rise }

pub returns-in_err-reserve_row-clause-err : goal.returns-in_err-reserve_row-clause-err
returns-in_err-reserve_row-clause-err c =
    let ids = c.self.inside.ids.items in
    let columns = c.self.inside.columns.items in
    let mids = c.reserve_row.new.columns in
    let is : IsTable ids columns = record { cells = c.self.invariant.cells; rise = c.self.invariant.rise } in
    let lent : c.as_mut_slice.result.now ≡ columns = c.as_mut_slice.ensures.value in
    let few : length mids ≡ length columns = rw (← lent) c.reserve_row.ensures.len in
    let each : Each (λ k. Keeps) (length columns) columns mids = rw (← lent) c.reserve_row.ensures.keeps in
    let back = with_items_is c.self.inside.columns mids (omega (arith, few, c.self.inside.columns.ok.0)) in
    let kept : table_with c.reserve_id.new.ids.items (with_items c.self.inside.columns mids).items ≡ c.args.self.now =
    rw (c.reserve_id.ensures.items, back) ((table-keeps ids columns is mids few each).1 ∙ c.self.view_is) in
    search (rules, kept)

-- what stands once there is room
mid : (c : In_ok-reserve_row) → IsTable c.reserve_id.new.ids.items c.reserve_row.new.columns
    × (table_with c.reserve_id.new.ids.items c.reserve_row.new.columns ≡ c.args.self.now)
    × ((with_items c.self.inside.columns c.reserve_row.new.columns).items ≡ c.reserve_row.new.columns)
mid c =
    let ids = c.self.inside.ids.items in
    let columns = c.self.inside.columns.items in
    let mids = c.reserve_row.new.columns in
    let is : IsTable ids columns = record { cells = c.self.invariant.cells; rise = c.self.invariant.rise } in
    let lent : c.as_mut_slice.result.now ≡ columns = c.as_mut_slice.ensures.value in
    let few : length mids ≡ length columns = rw (← lent) c.reserve_row.ensures.len in
    let each : Each (λ k. Keeps) (length columns) columns mids = rw (← lent) c.reserve_row.ensures.keeps in
    let both = table-keeps ids columns is mids few each in
    let kept : IsTable ids mids × (table_with ids mids ≡ c.args.self.now) = (both.0, both.1 ∙ c.self.view_is) in
    let at : IsTable c.reserve_id.new.ids.items mids × (table_with c.reserve_id.new.ids.items mids ≡ c.args.self.now) =
    rw c.reserve_id.ensures.items kept in
    (at.0, at.1, with_items_is c.self.inside.columns mids (omega (arith, few, c.self.inside.columns.ok.0)))

pub place_of-at-requires : goal.place_of-at-requires
place_of-at-requires c =
    let m = mid (goal.at.place_of-at-requires c).In_ok-reserve_row in
    rw c.as_slice.ensures.value (table-sorted c.reserve_id.new.ids.items c.reserve_row.new.columns m.0)

pub insert_row-requires-clause-cells : goal.insert_row-requires-clause-cells
insert_row-requires-clause-cells c =
    let m = mid (goal.at.insert_row-requires-clause-cells c).In_ok-reserve_row in
    let many : c.len-rows.result ≡ length c.reserve_id.new.ids.items = search rules in
    rw (c.as_mut_slice-2.ensures.value, many, m.2) m.0.cells

pub insert_row-requires-clause-wide : goal.insert_row-requires-clause-wide
insert_row-requires-clause-wide c =
    let m = mid (goal.at.insert_row-requires-clause-wide c).In_ok-reserve_row in
    let kinds = ap (λ (table : Table). table.kinds) m.1 in
    rw (c.as_mut_slice-2.ensures.value, m.2, kinds) c.requires.wide

put : (c : After-insert_row)
    → IsTable c.reserve_id.new.ids.items c.reserve_row.new.columns
    × (table_with c.reserve_id.new.ids.items c.reserve_row.new.columns ≡ c.args.self.now)
    × ((with_items c.self.inside.columns c.reserve_row.new.columns).items ≡ c.reserve_row.new.columns)
    → IsTable c.insert_id.new.ids.items
    (with_items (with_items c.self.inside.columns c.reserve_row.new.columns) c.insert_row.new.columns).items
    × (table_with c.insert_id.new.ids.items
    (with_items (with_items c.self.inside.columns c.reserve_row.new.columns) c.insert_row.new.columns).items
    ≡ record {
      kinds = c.args.self.now.kinds;
      rows = with_row c.args.self.now.rows c.args.row (values_of c.args.self.now.kinds c.args.bytes.now);
    })
put c m =
    let ids = c.reserve_id.new.ids.items in
    let mids = c.reserve_row.new.columns in
    let news = c.insert_row.new.columns in
    let kinds = ap (λ (table : Table). table.kinds) m.1 in
    let rows = ap (λ (table : Table). table.rows) m.1 in
    let lent : c.as_mut_slice-2.result.now ≡ mids = c.as_mut_slice-2.ensures.value ∙ m.2 in
    let many : c.len-rows.result ≡ length ids = search rules in
    let away : is_present (rows_in ids mids) c.args.row ≡ false = ap (λ rows. is_present rows c.args.row) rows ∙ c.requires.absent in
    let place : c.place_of-at.result ≡ prefix_len (λ id. nat_lt id c.args.row) ids =
    c.place_of-at.ensures.value ∙ ap (prefix_len (λ id. nat_lt id c.args.row)) c.as_slice.ensures.value in
    let each : Each (IsPutIn (length ids) c.place_of-at.result mids c.args.bytes.now) (length mids) mids news =
    rw (← many, ← lent) c.insert_row.ensures.put in
    let few : length news ≡ length mids = rw (← lent) c.insert_row.ensures.len in
    let size : length mids ≡ c.self.inside.columns.len =
    omega (arith, ap length m.2, (with_items c.self.inside.columns mids).ok.0) in
    let made =
    table-insert ids mids m.0 c.insert_id.new.ids.items news c.args.row c.place_of-at.result c.args.bytes.now
    c.insert_id.ensures place away few each in
    let back = with_items_is (with_items c.self.inside.columns mids) news (omega (arith, few, size)) in
    written c.insert_id.new.ids.items news (with_items (with_items c.self.inside.columns mids) news).items
    (record {
      kinds = c.args.self.now.kinds;
      rows = with_row c.args.self.now.rows c.args.row (values_of c.args.self.now.kinds c.args.bytes.now);
    }) back
    (made.0, made.1 ∙ rw (kinds, rows) refl)

pub invariant_of-self-2 : goal.invariant_of-self-2
invariant_of-self-2 c =
    let is = (put (goal.at.invariant_of-self-2 c).After-insert_row (mid (goal.at.invariant_of-self-2 c).In_ok-reserve_row)).0 in
    record { cells = is.cells; rise = is.rise }

pub returns-clause-ok : goal.returns-clause-ok
returns-clause-ok c = (put (goal.at.returns-clause-ok c).After-insert_row (mid (goal.at.returns-clause-ok c).In_ok-reserve_row)).1
