-- The entry's table is changed, and the others stay.
use Rattle.std.proofs.Common.{map, slice_get, slice_set, Ok, get_or, sym, ap, ◌∙◌}
use Rattle.store.proofs.TableKinds.{table-at, tables-set, tables-same}
use Rattle.store.proofs.Outcomes.{ok-follows, on-err-follows, err-follows}
use Rattle.store.proofs.changing.change_tables.Goals as goal

pub returns-clause-ok : goal.returns-clause-ok
returns-clause-ok g c =
    let all = c.args.tables.now in
    let i = c.table-table.result in
    let tables = map g.T.TableRows.table all in
    let at = sym c.table-table.ensures in
    let is = ap (get_or all i) c.index-tables-table.is in
    let seen = table-at g.T.TableRows.table all i _ c.if-table-tables.false is in
    ok-follows c.change_table.result _ _ c.change_table.ensures.ok (λ changes.
    changes tables (ap (slice_get tables) at ∙ seen)
    ∙ ap (λ n. Ok (slice_set tables n (g.T.TableRows.table c.change_table.new.table))) at
    ∙ sym (ap Ok (tables-set g.T.TableRows.table all i c.change_table.new.table)))

pub returns-clause-err : goal.returns-clause-err
returns-clause-err g c =
    let is = ap (get_or c.args.tables.now c.table-table.result) c.index-tables-table.is in
    on-err-follows c.change_table.result _ _ c.change_table.ensures.err
    (tables-same g.T.TableRows.table c.args.tables.now c.table-table.result _ c.if-table-tables.false is c.change_table.new.table)

pub returns-clause-refused : goal.returns-clause-refused
returns-clause-refused g c =
    let tables = map g.T.TableRows.table c.args.tables.now in
    let is = ap (get_or c.args.tables.now c.table-table.result) c.index-tables-table.is in
    let seen = table-at g.T.TableRows.table c.args.tables.now c.table-table.result _ c.if-table-tables.false is in
    err-follows c.change_table.result _ _ c.change_table.ensures.refused (λ fault told.
    told tables (ap (slice_get tables) (sym c.table-table.ensures) ∙ seen))
