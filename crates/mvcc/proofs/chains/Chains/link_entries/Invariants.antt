-- The chains are those of the commits, and one more of the entries so far; and the columns have those that these add.
use Rattle.std.proofs.Common.{◌≡◌, ◌+◌, length, take}
use Rattle.std.specs.List.{AllByRecursion}
use Rattle.rows.specs.Shape.{Shape}
use Rattle.mvcc.specs.Inner.Chains.{and_entries, AreChains, AreLinkable}
use Rattle.mvcc.specs.Inner.Columns.{columns_after}
use Rattle.mvcc.specs.Inner.RowBytes.{HasValue}
use Rattle.mvcc.proofs.chains.Chains.link_entries.Given as goal

abbrev pub invariant-loop-entry : goal.invariant-loop-entry
invariant-loop-entry l = record {
  linked : (shape : Shape) → AreLinkable shape l.commits l.entries l.initial.columns l.initial.self
      → AreChains shape (and_entries l.commits (take l.entry-index l.entries)) l.self;
  columns : l.columns ≡ columns_after (length l.commits + 1) (take l.entry-index l.entries) l.initial.columns;
  valued : AllByRecursion HasValue (take l.entry-index l.entries);
}
