-- One table more. There are as many names as tables.
use Rattle.std.proofs.Common.{arith}
use Rattle.std.proofs.lemmas.List.{length-map}
use Rattle.dispatcher.specs.TableText.{names_of, table_text}
use Rattle.dispatcher.proofs.Walk.{table-more}
use Rattle.dispatcher.proofs.table_text.table_text.Goals as goal

pub loop-table-preserved : goal.loop-table-preserved
loop-table-preserved g c =
    let schema = c.args.schema.now in
    let names = names_of schema in
    let tables = g.S.Store.tables c.args.store.now in
    let named = length-map schema (λ table. table.0) in
    let many = c.requires.many in
    table-more names tables c.loop-table.table c.loop-table.text.items c.append_table.new.text.items
    (table_text names c.args.version tables) (omega (arith, named, c.loop-table-test.true, c.table_count-tables.ensures))
    (omega (arith, named, many)) c.loop-table.invariant c.in_ok-append_table.ensures
