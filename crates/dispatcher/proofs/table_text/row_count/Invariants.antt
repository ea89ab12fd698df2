-- The count so far and that of the tables from this one on are the whole's; each table has fewer rows than 64 bits count.
use Rattle.std.proofs.Common.{◌≡◌, ◌≤◌, ◌+◌, ◌*◌, ◌^◌, drop}
use Rattle.dispatcher.specs.TableText.{row_count}
use Rattle.dispatcher.proofs.table_text.row_count.Given as goal

abbrev pub invariant-loop-table : goal.invariant-loop-table
invariant-loop-table g l = record {
  whole : l.count + row_count (drop l.table (g.S.Store.tables l.store)) ≡ row_count (g.S.Store.tables l.store);
  few : l.count ≤ 2 ^ 64 * l.table;
}
