-- The values so far and those of what is left are the row's, and what is left is wide enough.
use Rattle.std.proofs.Common.{◌≡◌, ◌≤◌, ◌++◌, length, drop}
use Rattle.rows.specs.Shape.{row_width}
use Rattle.rows.specs.Values.{values_of}
use Rattle.rows.proofs.row.row_values.Given as goal

abbrev pub invariant-loop-kind : goal.invariant-loop-kind
invariant-loop-kind l = record {
  wide : row_width (drop l.kind-index l.kinds) ≤ length l.rest;
  whole : l.items.items ++ values_of (drop l.kind-index l.kinds) l.rest ≡ values_of l.kinds l.bytes;
}
