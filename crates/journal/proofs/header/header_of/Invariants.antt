-- The header of the tables so far, each of at most 17 bytes.
use Rattle.std.proofs.Common.{◌≡◌, ◌≤◌, ◌+◌, ◌*◌, length}
use Rattle.rows.specs.Shape.{shape_of}
use Rattle.journal.proofs.Texts.{header_so_far}
use Rattle.journal.proofs.header.header_of.Given as goal

abbrev pub invariant-loop-table : goal.invariant-loop-table
invariant-loop-table l = record {
  written : l.bytes.items ≡ header_so_far l.fn.form l.workers (shape_of l.schema) l.table;
  few : length l.bytes.items ≤ 6 + 17 * l.table;
}
