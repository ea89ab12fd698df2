-- The text so far and the rows from the index on are the table's.
use Rattle.std.proofs.Common.{◌≡◌, ◌++◌, drop}
use Rattle.std.specs.List.{flat_map}
use Rattle.rows.specs.Tables.{rows_of}
use Rattle.dispatcher.specs.TableText.{row_text}
use Rattle.dispatcher.proofs.table_text.append_table.Given as goal

abbrev pub invariant-loop-i : goal.invariant-loop-i
invariant-loop-i g l =
    l.text.items ++ flat_map (row_text l.name) (drop l.i (rows_of (g.S.Store.tables l.store) l.table))
    ≡ l.fn.text.items ++ flat_map (row_text l.name) (rows_of (g.S.Store.tables l.store) l.table)
