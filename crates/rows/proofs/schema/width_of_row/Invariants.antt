-- The width so far and that of what is left are the whole's; a column is 255 bytes at most.
use Rattle.std.proofs.Common.{◌≡◌, ◌≤◌, ◌+◌, ◌*◌, drop}
use Rattle.rows.specs.Shape.{row_width}
use Rattle.rows.proofs.schema.width_of_row.Given as goal

abbrev pub invariant-loop-kind : goal.invariant-loop-kind
invariant-loop-kind l = record {
  whole : l.width + row_width (drop l.kind-index l.kinds) ≡ row_width l.kinds;
  few : l.width ≤ 255 * l.kind-index;
}
