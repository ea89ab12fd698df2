-- The first tables of the schema so far.
use Rattle.std.proofs.Common.{◌≡◌, ◌-◌, length, map, take}
use Rattle.rows.specs.Shape.{shape_of}
use Rattle.mvcc.specs.Inner.Columns.{opened}
use Rattle.mvcc.proofs.columns.Columns.new.Given as goal

abbrev pub invariant-loop-kinds : goal.invariant-loop-kinds
invariant-loop-kinds l = l.tables.items ≡ map opened (take (length l.tables.items) (shape_of l.schema))

abbrev pub decreases-loop-kinds : goal.decreases-loop-kinds
decreases-loop-kinds l = length l.schema - length l.tables.items
