-- The pieces before the index were scanned.
use Rattle.std.proofs.Common.{◌≡◌, length}
use Rattle.plans.specs.Inner.Together.{ArePieces}
use Rattle.plans.proofs.together.scan_in_turn.Given as goal

abbrev pub invariant-loop-piece : goal.invariant-loop-piece
invariant-loop-piece g l = record {
  sizes : length l.parts.items ≡ l.piece;
  parts : ArePieces (g.S.Store.tables l.store) l.plans l.table l.pieces l.parts.items;
}
