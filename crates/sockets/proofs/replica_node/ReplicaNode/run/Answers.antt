-- A run sends nothing, and its report is handed on.
use Rattle.std.proofs.Common.{refl}
use Rattle.sockets.proofs.Stepping.{does_run}
use Rattle.sockets.proofs.replica_node.ReplicaNode.run.Goals as goal
use Rattle.sockets.proofs.replica_node.ReplicaNode.run.Goals.{in-Answered, in-WaitingPiece, in-Waiting, in-NoBatch, in-WaitingHead}
use Rattle.sockets.proofs.replica_node.ReplicaNode.run.Goals.{in-Inconsistent}
use Rattle.sockets.proofs.replica_node.ReplicaNode.run.Goals.{in-Broken, in-Memory}

pub returns-clause-does : goal.returns-clause-does
returns-clause-does g c =
    rw (← c.self.view_is)
    (does_run _ _ _ _ _ _ c.run.result _ c.run.ensures
    (elim c.match-run.branch [
      | in-Answered w ↦ rw (w.in-Answered.is, w.result-is) refl
      | in-WaitingPiece w ↦ rw (w.in-WaitingPiece.is, w.result-is) refl
      | in-Waiting w ↦ rw (w.in-Waiting.is, w.result-is) refl
      | in-NoBatch w ↦ rw (w.in-NoBatch.is, w.result-is) refl
      | in-WaitingHead w ↦ rw (w.in-WaitingHead.is, w.result-is) refl
      | in-Inconsistent w ↦ rw (w.in-Inconsistent.is, w.result-is) refl
      | in-Broken w ↦ rw (w.in-Broken.is, w.result-is) refl
      | in-Memory w ↦ rw (w.in-Memory.is, w.result-is) refl
    ]) refl)
