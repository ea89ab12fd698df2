-- The kinds of the first tables, as many as the index says.
use Rattle.std.proofs.Common.{◌≡◌, take}
use Rattle.rows.specs.Shape.{shape_of}
use Rattle.journal.proofs.present_rows.kinds_of.Given as goal

abbrev pub invariant-loop-table : goal.invariant-loop-table
invariant-loop-table l = l.kinds.items ≡ take l.table (shape_of l.schema)
