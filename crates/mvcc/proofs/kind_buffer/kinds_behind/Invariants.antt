-- What the entries that are left make of the kinds so far is what all make of the first; they are columns of a table.
use Rattle.std.proofs.Common.{◌≡◌, drop}
use Rattle.rows.specs.Shape.{AreColumns}
use Rattle.mvcc.specs.Inner.Columns.{kinds_after}
use Rattle.mvcc.proofs.kind_buffer.kinds_behind.Given as goal

abbrev pub invariant-loop-entry : goal.invariant-loop-entry
invariant-loop-entry l = record {
  kinds : kinds_after l.table l.behind (drop l.entry-index l.entries) ≡ kinds_after l.table l.kinds l.entries;
  columns : AreColumns l.behind;
}
