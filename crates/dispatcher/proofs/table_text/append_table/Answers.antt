-- One row more, up to the last.
use Rattle.std.proofs.Common.{◌++◌, sym, ◌∙◌, arith}
use Rattle.std.specs.List.{flat_map}
use Rattle.std.proofs.lemmas.Option.{slice_get-map}
use Rattle.rows.specs.Tables.{rows_of}
use Rattle.dispatcher.specs.TableText.{names_of, row_text}
use Rattle.dispatcher.proofs.Walk.{row-more, rows-told}
use Rattle.dispatcher.proofs.table_text.append_table.Goals as goal

pub loop-i-preserved : goal.loop-i-preserved
loop-i-preserved g c =
    let rows = rows_of (g.S.Store.tables c.args.store.now) c.args.table in
    let name = c.in-Some.name.now in
    let len = c.len-i-end.ensures c.requires.whole in
    row-more name rows c.loop-i.i c.loop-i.text.items c.append_row.new.text.items
    (c.args.text.now.items ++ flat_map (row_text name) rows) (omega (arith, c.loop-i-test.true, len)) c.loop-i.invariant
    c.in_ok-append_row.ensures

pub returns : goal.returns
returns g c =
    let schema = c.args.schema.now in
    let len = c.len-i-end.ensures c.requires.whole in
    rows-told (names_of schema) (g.S.Store.tables c.args.store.now) c.args.table c.loop-i.i c.in-Some.name.now c.loop-i.text.items
    c.args.text.now.items (slice_get-map (λ table. table.0) schema c.args.table ∙ sym c.in-Some.ensures)
    (omega (arith, c.loop-i-test.false, len)) c.loop-i.invariant
