-- The piece's rows before the cursor were scanned, and no identifier of theirs is above the last.
use Rattle.std.proofs.Common.{◌-◌, ◌≤◌, length, take}
use Rattle.rows.specs.Tables.{rows_of}
use Rattle.store.specs.Lent.{rows_in}
use Rattle.plans.specs.Inner.Pieces.{AreAtMost}
use Rattle.plans.specs.Inner.Scans.{IsScan}
use Rattle.plans.proofs.piecewise.scan_piece.Given as goal

abbrev pub invariant-loop-block : goal.invariant-loop-block
invariant-loop-block g l = record {
  within : l.from ≤ length (rows_in (rows_of (g.S.Store.tables l.store) l.table) l.pieces l.piece);
  most : AreAtMost (rows_in (rows_of (g.S.Store.tables l.store) l.table) l.pieces l.piece) l.from l.last;
  scan : IsScan (g.S.Store.tables l.store) l.plans l.classes l.table
      (take l.from (rows_in (rows_of (g.S.Store.tables l.store) l.table) l.pieces l.piece)) l.from l.scan;
}

-- what is left of the piece
abbrev pub decreases-loop-block : goal.decreases-loop-block
decreases-loop-block g l = length (rows_in (rows_of (g.S.Store.tables l.store) l.table) l.pieces l.piece) - l.from
