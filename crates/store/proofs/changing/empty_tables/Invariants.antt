-- The first tables, without rows, as many as the index says.
use Rattle.std.proofs.Common.{◌≡◌, map, take}
use Rattle.rows.specs.Shape.{shape_of}
use Rattle.rows.specs.Tables.{opening}
use Rattle.store.proofs.changing.empty_tables.Given as goal

abbrev pub invariant-loop-table : goal.invariant-loop-table
invariant-loop-table g l = map g.T.TableRows.table l.tables.items ≡ take l.table (opening (shape_of l.schema))
