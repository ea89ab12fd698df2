-- One table more.
use Rattle.std.proofs.Common.{arith, rules}
use Rattle.dispatcher.proofs.Walk.{count-more}
use Rattle.dispatcher.proofs.table_text.row_count.Goals as goal

pub loop-table-preserved : goal.loop-table-preserved
loop-table-preserved g c =
    let tables = g.S.Store.tables c.args.store.now in
    let table = c.loop-table.table in
    let more = count-more tables table (omega (arith, c.loop-table-test.true, c.requires.all)) in
    let len = c.len.ensures c.requires.whole in
    record {
      whole = omega (arith, c.loop-table.invariant.whole, more, len);
      few = search rules;
    }
