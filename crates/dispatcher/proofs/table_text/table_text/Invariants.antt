-- The text so far and the rows of the tables from this one on are the whole.
use Rattle.std.proofs.Common.{◌≡◌, ◌++◌, drop}
use Rattle.dispatcher.specs.TableText.{names_of, rows_text, table_text}
use Rattle.dispatcher.proofs.table_text.table_text.Given as goal

abbrev pub invariant-loop-table : goal.invariant-loop-table
invariant-loop-table g l =
    l.text.items ++ rows_text (drop l.table (names_of l.schema)) (drop l.table (g.S.Store.tables l.store))
    ≡ table_text (names_of l.schema) l.version (g.S.Store.tables l.store)
