-- The column is to be found among those from the index on, at what is left of the offset.
use Rattle.std.proofs.Common.{◌≡◌, drop}
use Rattle.rows.specs.Shape.{column_from}
use Rattle.rows.proofs.schema.column_at.Given as goal

abbrev pub invariant-loop-column : goal.invariant-loop-column
invariant-loop-column l = column_from l.column (drop l.column l.kinds) l.rest l.size ≡ column_from 0 l.kinds l.offset l.size
