-- Gap by gap, of the replica as it was.
use Rattle.std.proofs.Common.{sym, subst, ◌∙◌, get_or}
use Rattle.std.specs.List.{Contains}
use Rattle.update_log.specs.Limits.{want_frames_max}
use Rattle.dispatcher.specs.Gaps.{piece_gaps_of}
use Rattle.dispatcher.specs.declared.gaps.Gap.{Gap}
use Rattle.dispatcher.specs.State.{Replica}
use Rattle.sockets.proofs.Stepping.{does_then}
use Rattle.sockets.proofs.replica_node.ReplicaNode.pull_each.Goals as goal

pub send_pull-requires-clause-named : goal.send_pull-requires-clause-named
send_pull-requires-clause-named g c κs within =
    subst (λ (core : Replica). Contains (piece_gaps_of want_frames_max core) (get_or c.args.gaps.now c.loop-gap.gap-index any))
    (sym c.loop-gap.invariant.core) (c.requires.named c.loop-gap.gap-index any c.loop-gap-test.true)
  where
    any : Gap
    any = record { worker = 0; seq = 0 }

pub loop-gap-preserved : goal.loop-gap-preserved
loop-gap-preserved g c = record {
  does = does_then _ _ _ _ _ _ _ _ _ _ _ _ _ _ c.loop-gap.invariant.does c.send_pull.ensures.does;
  core = c.send_pull.ensures.core ∙ c.loop-gap.invariant.core;
}
