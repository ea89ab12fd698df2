-- The frames of the rows so far were pushed, and of each worker some were looked for.
use Rattle.std.proofs.Common.{◌≡◌, ◌<◌, ℕ, slice_index, length}
use Rattle.sockets.specs.Primaries.{DoesPrimary}
use Rattle.sockets.specs.Inner.Deeds.{looked_so_far}
use Rattle.sockets.proofs.primary_node.PrimaryNode.push_all.Given as goal

abbrev pub invariant-loop : goal.invariant-loop
invariant-loop g l = record {
  does : DoesPrimary {P = g.row.P.Denot} g.L.Line.schema g.L.Line.workers g.P.Port.is_honest g.P.Port.came g.P.Port.sent
      g.P.Port.fault_count l.fn.self l.self 0 (looked_so_far l.counter);
  first : l.counter ≡ 0 → (worker : ℕ) → worker < length l.fn.self.counters → 0 < slice_index l.left worker;
}
