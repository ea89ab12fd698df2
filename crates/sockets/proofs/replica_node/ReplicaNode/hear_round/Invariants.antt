-- What was done so far.
use Rattle.std.proofs.Common.{[]}
use Rattle.sockets.specs.Replicas.{DoesReplica}
use Rattle.sockets.proofs.replica_node.ReplicaNode.hear_round.Given as goal

abbrev pub invariant-loop : goal.invariant-loop
invariant-loop g l =
    DoesReplica {P = g.row.P.Denot} g.P.Port.is_honest g.P.Port.came g.P.Port.sent g.P.Port.fault_count l.fn.self l.self 0 [] [] 0
