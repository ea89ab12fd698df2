-- The parts at the beginning are those of a world.
use Rattle.world.proofs.FedLaws.{FedLaws}
use Rattle.world.proofs.Whole.{new-kept}
use Rattle.world.proofs.world.World.with_partitions.Goals as goal

pub invariant_of-result : goal.invariant_of-result
invariant_of-result c =
    let e = c.fed_replicas_stay_fed.ensures in
    let laws : FedLaws = record {
      fresh = e.fresh;
      commits = e.commits;
      truth = e.truth;
      bytes = e.bytes;
      head = e.head;
      frame = e.frame;
      piece = e.piece;
      opening = e.«open»;
      asking = e.ask;
      renewing = e.renew;
      running = e.run;
      ready = e.ready;
      dump = e.dump;
      identity = e.identity;
      steps = c.steps_are_told.ensures;
    } in
    rw c.in_ok-cores.ensures
    (new-kept laws c.args.setup.now c.keeps_limits.ensures c.requires.some c.requires.workers c.requires.replicas)
