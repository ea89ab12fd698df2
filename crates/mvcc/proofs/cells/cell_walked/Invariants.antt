-- What the entries that are left make of the column so far, with the kinds so far, is what all make of it.
use Rattle.std.proofs.Common.{◌≡◌, drop}
use Rattle.rows.specs.Shape.{AreColumns}
use Rattle.mvcc.specs.Inner.Cells.{cell_walked}
use Rattle.mvcc.proofs.cells.cell_walked.Given as goal

abbrev pub invariant-loop-entry : goal.invariant-loop-entry
invariant-loop-entry l = record {
  cell : cell_walked l.behind l.table l.row.0 l.column (drop l.entry-index l.entries) l.cell
      ≡ cell_walked l.kinds l.table l.row.0 l.column l.entries l.fn.was;
  columns : AreColumns l.behind;
}
