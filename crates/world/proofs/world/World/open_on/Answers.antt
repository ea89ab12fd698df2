-- The parts at the beginning are those of a world, and what the journal keeps is durable.
use Rattle.std.proofs.Common.{sym, ap, subst, ◌∙◌}
use Rattle.script.specs.declared.setup.Setup.{Setup}
use Rattle.world.specs.Cores.{cores_started}
use Rattle.world.specs.Inner.Invariant.{CoresAreKept}
use Rattle.world.specs.Inner.Nodes.{opening_of, AreNewReplicas}
use Rattle.world.proofs.FedLaws.{FedLaws}
use Rattle.world.proofs.Nodes.{stopped_still}
use Rattle.world.proofs.Whole.{opened-kept, opening_on}
use Rattle.world.proofs.world.World.open_on.Goals as goal

pub invariant_of-result : goal.invariant_of-result
invariant_of-result c =
    let e = c.fed_replicas_stay_fed.ensures in
    let laws : FedLaws = record {
      fresh = e.fresh;
      commits = e.commits;
      truth = e.truth;
      bytes = e.bytes;
      head = e.head;
      frame = e.frame;
      piece = e.piece;
      opening = e.«open»;
      asking = e.ask;
      renewing = e.renew;
      running = e.run;
      ready = e.ready;
      dump = e.dump;
      identity = e.identity;
      steps = c.steps_are_told.ensures;
    } in
    subst CoresAreKept (sym c.around-cores.ensures)
    (subst (λ (s : Setup). CoresAreKept (cores_started (opening_of s c.in_ok-primary.primary))) (sym c.in-Ok.ensures.setup)
    (opened-kept laws c.args.setup.now c.args.journal.items c.in_ok-primary.primary c.keeps_limits.ensures c.requires.some
    c.requires.workers c.requires.replicas c.in_ok-primary.ensures.ok))

pub around-cores-requires : goal.around-cores-requires
around-cores-requires c =
    let setup = c.args.setup.now in
    let made = c.in-Ok.replicas in
    let node = c.in_ok-primary.primary in
    record {
      new =
          subst (λ (s : Setup). AreNewReplicas s made.cores.items made.boots.items made.asked_at.items) (sym c.in-Ok.ensures.setup)
          c.in-Ok.ensures.new;
      still = stopped_still made.setup node c.in_ok-primary.ensures.ok.0;
    }

pub returns-clause-ok : goal.returns-clause-ok
returns-clause-ok c =
    let setup = c.args.setup.now in
    let node = c.in_ok-primary.primary in (
      opening_of setup node,
      opening_on setup c.args.journal.items node c.in_ok-primary.ensures.ok,
      c.around-cores.ensures ∙ ap (λ (s : Setup). cores_started (opening_of s node)) c.in-Ok.ensures.setup,
    )
