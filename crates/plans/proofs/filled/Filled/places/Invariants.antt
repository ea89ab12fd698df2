-- The columns so far have their places.
use Rattle.std.proofs.Common.{length, take}
use Rattle.plans.specs.Inner.Cells.{HaveColumns, AreColumnsOf}
use Rattle.plans.specs.Inner.Partnered.{joined_rows, AreFilled, Grows}
use Rattle.plans.proofs.filled.Filled.places.Given as goal

abbrev pub invariant-loop-column : goal.invariant-loop-column
invariant-loop-column g l = record {
  filled : AreFilled (joined_rows (g.S.Store.tables l.store) (g.S.Store.values_at l.store) l.block l.partners) l.self;
  grows : Grows l.initial.self.cells.items l.self.cells.items;
  there : HaveColumns l.self.cells.items l.places.items
      (length (joined_rows (g.S.Store.tables l.store) (g.S.Store.values_at l.store) l.block l.partners));
  columns : AreColumnsOf l.self.cells.items l.places.items (take l.column-index l.columns)
      (joined_rows (g.S.Store.tables l.store) (g.S.Store.values_at l.store) l.block l.partners);
}
