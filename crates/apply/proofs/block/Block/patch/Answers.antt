use Rattle.std.proofs.Common.{rules, ◌≡◌, ◌<◌, ◌≤◌, length, true, Some, get_or, sym, ap, ◌∙◌, arith}
use Rattle.rows.specs.Tables.{Table, is_present}
use Rattle.apply.specs.declared.cells.Cells.{Cells}
use Rattle.apply.specs.Columns.{AreCells}
use Rattle.apply.specs.Blocks.{kinds_with, table_with}
use Rattle.apply.specs.Orders.{place_in}
use Rattle.apply.proofs.Ordered.{there-within}
use Rattle.apply.proofs.Built.{IsTable, rows_in, table-length}
use Rattle.std.proofs.Common.{None}
use Rattle.apply.specs.Columns.{values_in}
use Rattle.rows.specs.Values.{value_of}
use Rattle.std.proofs.Common.{slice_set}
use Rattle.apply.proofs.Ordered.{is-there}
use Rattle.rows.specs.Shape.{column_at, width_of}
use Rattle.rows.specs.Tables.{with_patch}
use Rattle.apply.specs.Columns.{kind_of}
use Rattle.apply.proofs.Built.{table-set, patch-none, patch-some, column-here, column-within}
use Rattle.apply.proofs.block.Block.patch.Goals as goal
use Rattle.apply.proofs.block.Block.patch.Goals.{In-Some, In-Some-column_at, After-set}

-- the column that was found
found : (c : In-Some-column_at) → column_at (kinds_with c.self.inside.columns.items) c.args.offset (length c.args.bytes.now)
    ≡ Some (c.in-Some-column_at.column, c.in-Some-column_at.field-0-1)
found c =
    let kinds : kinds_with c.self.inside.columns.items ≡ c.args.kinds.now =
    ap (λ (table : Table). table.kinds) c.self.view_is ∙ sym c.requires in
    ap (λ kinds. column_at kinds c.args.offset (length c.args.bytes.now)) kinds ∙ sym c.in-Some-column_at.ensures

here : (c : In-Some-column_at) → (d : Cells) → (c.in-Some-column_at.column < length c.self.inside.columns.items)
    × (kind_of (get_or c.self.inside.columns.items c.in-Some-column_at.column d) ≡ c.in-Some-column_at.field-0-1)
    × (length c.args.bytes.now ≡ width_of c.in-Some-column_at.field-0-1)
here c d =
    let is : IsTable c.self.inside.ids.items c.self.inside.columns.items =
    record { cells = c.self.invariant.cells; rise = c.self.invariant.rise } in
    column-here c.self.inside.ids.items c.self.inside.columns.items is c.args.offset
    (length c.args.bytes.now) c.in-Some-column_at.column c.in-Some-column_at.field-0-1 d (found c)

there : (c : In-Some) → is_present (rows_in c.self.inside.ids.items c.self.inside.columns.items) c.args.row ≡ true
there c = ap (λ (table : Table). is_present table.rows c.args.row) c.self.view_is ∙ sym c.in-Some.ensures.found

place : (c : In-Some) → c.in-Some.at ≡ place_in (rows_in c.self.inside.ids.items c.self.inside.columns.items) c.args.row
place c = c.in-Some.ensures.place ∙ sym (ap (λ (table : Table). place_in table.rows c.args.row) c.self.view_is)

pub index_mut-requires : goal.index_mut-requires
index_mut-requires c =
    let is : IsTable c.self.inside.ids.items c.self.inside.columns.items =
    record { cells = c.self.invariant.cells; rise = c.self.invariant.rise } in
    let lt =
    column-within c.self.inside.ids.items c.self.inside.columns.items is c.args.offset
    (length c.args.bytes.now) c.in-Some-column_at.column c.in-Some-column_at.field-0-1
    (found (goal.at.index_mut-requires c).In-Some-column_at) in
    omega (arith, lt, c.self.inside.columns.ok.0)

pub set-requires-clause-cells : goal.set-requires-clause-cells
set-requires-clause-cells c =
    let lt = (here (goal.at.set-requires-clause-cells c).In-Some-column_at c.index_mut.result.now).0 in
    let many : c.len.result ≡ length c.self.inside.ids.items = search rules in
    rw (many, c.index_mut.ensures.value) (c.self.invariant.cells c.in-Some-column_at.column c.index_mut.result.now lt)

pub set-requires-clause-within : goal.set-requires-clause-within
set-requires-clause-within c =
    let ids = c.self.inside.ids.items in
    let columns = c.self.inside.columns.items in
    let is : IsTable ids columns = record { cells = c.self.invariant.cells; rise = c.self.invariant.rise } in
    let many : c.len.result ≡ length ids = search rules in
    let at = (goal.at.set-requires-clause-within c).In-Some in
    let within = there-within c.args.row (rows_in ids columns) is.rise (there at) in
    omega (arith, within, table-length ids columns is, place at, many)

pub set-requires-clause-wide : goal.set-requires-clause-wide
set-requires-clause-wide c =
    let columns = c.self.inside.columns.items in
    let k = c.in-Some-column_at.column in
    let d = c.index_mut.result.now in
    let at = here (goal.at.set-requires-clause-wide c).In-Some-column_at d in
    let wide : width_of (kind_of (get_or columns k d)) ≤ length c.args.bytes.now =
    rw at.1 (omega (arith, at.2)) in
    rw c.index_mut.ensures.value wide

made : (c : After-set)
    → (column_at (kinds_with c.self.inside.columns.items) c.args.offset (length c.args.bytes.now)
    ≡ Some (c.in-Some-column_at.column, c.in-Some-column_at.field-0-1))
    → (is_present (rows_in c.self.inside.ids.items c.self.inside.columns.items) c.args.row ≡ true)
    → (c.in-Some.at ≡ place_in (rows_in c.self.inside.ids.items c.self.inside.columns.items) c.args.row)
    → IsTable c.self.inside.ids.items (slice_set c.self.inside.columns.items c.in-Some-column_at.column c.set.new.self)
    × (table_with c.self.inside.ids.items (slice_set c.self.inside.columns.items c.in-Some-column_at.column c.set.new.self)
    ≡ record {
      kinds = kinds_with c.self.inside.columns.items;
      rows = with_patch (kinds_with c.self.inside.columns.items)
          (rows_in c.self.inside.ids.items c.self.inside.columns.items) c.args.row c.args.offset c.args.bytes.now;
    })
made c at present place =
    let ids = c.self.inside.ids.items in
    let columns = c.self.inside.columns.items in
    let rows = rows_in ids columns in
    let k = c.in-Some-column_at.column in
    let d = c.index_mut.result.now in
    let value = value_of c.in-Some-column_at.field-0-1 c.args.bytes.now in
    let is : IsTable ids columns = record { cells = c.self.invariant.cells; rise = c.self.invariant.rise } in
    let column = column-here ids columns is c.args.offset (length c.args.bytes.now) k c.in-Some-column_at.field-0-1 d at in
    let row = is-there c.args.row rows is.rise present in
    let many : c.len.result ≡ length ids = search rules in
    let cells : AreCells (length ids) c.set.new.self = rw (← many) c.set.ensures.cells in
    let kind : kind_of c.set.new.self ≡ kind_of (get_or columns k d) = c.set.ensures.kind ∙ ap kind_of c.index_mut.ensures.value in
    let was : kind_of d ≡ c.in-Some-column_at.field-0-1 = ap kind_of c.index_mut.ensures.value ∙ column.1 in
    let put : values_in (length ids) c.set.new.self
    ≡ slice_set (values_in (length ids) (get_or columns k d)) (place_in rows c.args.row) value =
    rw (← place, ← many, ← was, ← c.index_mut.ensures.value) c.set.ensures.values in
    let set = table-set ids columns is c.args.row k c.set.new.self value row.values d row.found column.0 cells kind put in
    let patched =
    patch-some ids columns is c.args.row c.args.offset c.args.bytes.now row.values (k, c.in-Some-column_at.field-0-1) row.found at in
    (set.0, set.1 ∙ ap (λ rows. record { kinds = kinds_with columns; rows = rows }) (sym patched))

pub invariant_of-self : goal.invariant_of-self
invariant_of-self c =
    let at = (goal.at.invariant_of-self c).In-Some in
    let column = found (goal.at.invariant_of-self c).In-Some-column_at in
    let is = (made (goal.at.invariant_of-self c).After-set column (there at) (place at)).0 in
    record { cells = is.cells; rise = is.rise }

pub returns-in-Some-column_at-clause-rows : goal.returns-in-Some-column_at-clause-rows
returns-in-Some-column_at-clause-rows c =
    let at = (goal.at.returns-in-Some-column_at-clause-rows c).In-Some in
    let column = found (goal.at.returns-in-Some-column_at-clause-rows c).In-Some-column_at in
    rw (← c.self.view_is) (made (goal.at.returns-in-Some-column_at-clause-rows c).After-set column (there at) (place at)).1

pub returns-in_default-column_at-clause-rows : goal.returns-in_default-column_at-clause-rows
returns-in_default-column_at-clause-rows c =
    let ids = c.self.inside.ids.items in
    let columns = c.self.inside.columns.items in
    let is : IsTable ids columns = record { cells = c.self.invariant.cells; rise = c.self.invariant.rise } in
    let kinds : kinds_with columns ≡ c.args.kinds.now = ap (λ (table : Table). table.kinds) c.self.view_is ∙ sym c.requires in
    let none : column_at (kinds_with columns) c.args.offset (length c.args.bytes.now) ≡ None =
    ap (λ kinds. column_at kinds c.args.offset (length c.args.bytes.now)) kinds ∙ sym c.in_default-column_at.ensures in
    rw (← c.self.view_is) (ap (λ rows. record { kinds = kinds_with columns; rows = rows })
    (sym (patch-none ids columns is c.args.row c.args.offset c.args.bytes.now none)))
