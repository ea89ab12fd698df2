-- The identifiers so far find their rows, and none is above the last.
use Rattle.std.proofs.Common.{◌+◌}
use Rattle.rows.specs.Tables.{rows_of}
use Rattle.store.specs.Lent.{rows_in}
use Rattle.plans.specs.Inner.BlockRows.{AreFound}
use Rattle.plans.specs.Inner.Pieces.{AreAtMost}
use Rattle.plans.proofs.lending.last_rising.Given as goal

abbrev pub invariant-loop-i : goal.invariant-loop-i
invariant-loop-i g l = record {
  most : AreAtMost (rows_in (rows_of (g.S.Store.tables l.fn.store) l.fn.table) l.fn.pieces l.fn.piece) (l.fn.from + l.i) l.end;
  found : AreFound (rows_of (g.S.Store.tables l.fn.store) l.fn.table)
      (rows_in (rows_of (g.S.Store.tables l.fn.store) l.fn.table) l.fn.pieces l.fn.piece) l.fn.from l.fn.ids l.i;
}
