-- What was done so far, with no report; nothing, if the replica was broken.
use Rattle.std.proofs.Common.{◌≡◌, true, Ok, None}
use Rattle.queue.specs.Passes.{moves_of, IsPassOf}
use Rattle.sockets.specs.Replicas.{ServesReplica}
use Rattle.sockets.specs.Serving.{TurnsLeft, completed}
use Rattle.sockets.specs.declared.faults.ServeFault.{ServeFault}
use Rattle.sockets.proofs.serving_replica.serve_replica.Given as goal

abbrev pub invariant-loop : goal.invariant-loop
invariant-loop g l = record {
  can : (goal.iterator-loop g).can_next l.iterator';
  ends : (goal.iterator-loop g).is_finite l.iterator';
  pass : IsPassOf l.queue l.pass;
  serves : ServesReplica {P = g.row.P.Denot} g.P.Port.is_honest g.P.Port.came g.P.Port.sent g.P.Port.fault_count l.fn.node l.node
      (moves_of l.fn.pass) (moves_of l.pass) (completed {F = ServeFault} l.fn.turns l.turns (Ok (tt {0}))) (Ok None);
  turns : TurnsLeft l.fn.turns l.turns;
  fresh : l.fn.node.core.broken ≡ true → (l.node ≡ l.fn.node) × (l.turns ≡ l.fn.turns);
}
