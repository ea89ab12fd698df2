-- The frames of the workers so far were pushed.
use Rattle.std.proofs.Common.{◌≡◌, ◌≤◌, ℕ, slice_index}
use Rattle.sockets.specs.Primaries.{DoesPrimary}
use Rattle.sockets.specs.Inner.Deeds.{looked_before}
use Rattle.sockets.proofs.primary_node.PrimaryNode.push_rows.Given as goal

abbrev pub invariant-loop-worker : goal.invariant-loop-worker
invariant-loop-worker g l = record {
  does : DoesPrimary {P = g.row.P.Denot} g.L.Line.schema g.L.Line.workers g.P.Port.is_honest g.P.Port.came g.P.Port.sent
      g.P.Port.fault_count l.fn.self l.self 0 (looked_before l.fn.left l.worker);
  left : (worker : ℕ) → l.worker ≤ worker → slice_index l.left worker ≡ slice_index l.fn.left worker;
}
