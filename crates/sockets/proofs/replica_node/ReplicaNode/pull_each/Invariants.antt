-- What was done so far, and the replica is as it was.
use Rattle.std.proofs.Common.{◌≡◌, []}
use Rattle.sockets.specs.Replicas.{DoesReplica}
use Rattle.sockets.proofs.replica_node.ReplicaNode.pull_each.Given as goal

abbrev pub invariant-loop-gap : goal.invariant-loop-gap
invariant-loop-gap g l = record {
  does : DoesReplica {P = g.row.P.Denot} g.P.Port.is_honest g.P.Port.came g.P.Port.sent g.P.Port.fault_count l.fn.self l.self 0 [] [] 0;
  core : l.self.core ≡ l.fn.self.core;
}
