-- What came so far was answered.
use Rattle.sockets.specs.Primaries.{DoesPrimary}
use Rattle.sockets.proofs.primary_node.PrimaryNode.hear_all.Given as goal

abbrev pub invariant-loop : goal.invariant-loop
invariant-loop g l =
    DoesPrimary {P = g.row.P.Denot} g.L.Line.schema g.L.Line.workers g.P.Port.is_honest g.P.Port.came g.P.Port.sent g.P.Port.fault_count
    l.fn.self l.self 0 (λ _. 0)
