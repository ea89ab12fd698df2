-- What the indices that are left make of the column so far is what all of them make of it.
use Rattle.std.proofs.Common.{◌≡◌, drop}
use Rattle.mvcc.specs.Inner.OwnRows.{picked}
use Rattle.mvcc.specs.Inner.Cells.{cell_after}
use Rattle.mvcc.proofs.cells.cell_after.Given as goal

abbrev pub invariant-loop-index : goal.invariant-loop-index
invariant-loop-index l =
    cell_after l.kinds l.table l.row.0 l.column
    (picked l.entries (drop l.index-index l.indices)) l.cell ≡ cell_after l.kinds l.table l.row.0 l.column
    (picked l.entries l.indices) l.fn.was
