-- Pulls are sent of the gaps in the pieces that the replica names.
use Rattle.std.proofs.Common.{sym, subst, ◌∙◌, [], refl}
use Rattle.update_log.specs.Limits.{want_frames_max}
use Rattle.dispatcher.specs.Gaps.{piece_gaps_of}
use Rattle.sockets.specs.Replicas.{DoesReplica}
use Rattle.sockets.specs.State.{ReplicaState}
use Rattle.sockets.proofs.Stepping.{does_nothing, taken-named}
use Rattle.sockets.proofs.replica_node.ReplicaNode.send_pulls.Goals as goal
use Rattle.sockets.proofs.replica_node.ReplicaNode.send_pulls.Goals.{then-is_ok, else-is_ok}

pub pull_each-requires-clause-named : goal.pull_each-requires-clause-named
pull_each-requires-clause-named g c κs within =
    taken-named 16 (piece_gaps_of want_frames_max c.self.inside.core) c.as_slice-then-is_ok.result.now
    (c.as_slice-then-is_ok.ensures.value ∙ c.piece_gaps.ensures.gaps)

pub returns : goal.returns
returns g c = subst Done (sym c.self-2.view_is) done
  where
    Done : ReplicaState g.row.P.Denot → Type 0
    Done node =
        DoesReplica {P = g.row.P.Denot} g.P.Port.is_honest g.P.Port.came g.P.Port.sent g.P.Port.fault_count c.args.self.now node 0 [] [] 0

    done : Done c.if-is_ok.self
    done = elim c.if-is_ok.branch [
      | then-is_ok w ↦ subst Done (sym w.self-is) (rw (← c.self.view_is) w.pull_each.ensures)
      | else-is_ok w ↦ subst Done (sym w.self-is) (rw (← c.self.view_is) (does_nothing _ _ _ _ _ _ refl))
    ]
