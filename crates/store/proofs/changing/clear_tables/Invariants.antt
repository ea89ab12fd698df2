-- The tables before the index are as at the opening, and the others are as they were.
use Rattle.std.proofs.Common.{◌≡◌, ◌++◌, map, take, drop}
use Rattle.rows.specs.Shape.{shape_of}
use Rattle.rows.specs.Tables.{opening}
use Rattle.store.proofs.changing.clear_tables.Given as goal

abbrev pub invariant-loop-k : goal.invariant-loop-k
invariant-loop-k g l =
    map g.T.TableRows.table l.tables
    ≡ take l.k (opening (shape_of l.schema)) ++ drop l.k (map g.T.TableRows.table l.initial.tables)
