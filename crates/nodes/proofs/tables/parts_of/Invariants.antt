-- The parts so far, and the tables from this one on, are all.
use Rattle.std.proofs.Common.{◌≡◌, ◌++◌, drop, map}
use Rattle.std.specs.List.{zip}
use Rattle.rows.specs.Shape.{given}
use Rattle.rows.specs.Tables.{shape_in}
use Rattle.dispatcher.specs.TableText.{names_of}
use Rattle.nodes.proofs.tables.parts_of.Given as goal

abbrev pub invariant-loop-table : goal.invariant-loop-table
invariant-loop-table g l =
    map given l.parts.items ++ zip (drop l.table (names_of l.schema)) (drop l.table (shape_in l.replica.tables))
    ≡ zip (names_of l.schema) (shape_in l.replica.tables)
