-- What the event's call leaves is the world's again, and what it answers may happen there.
use Rattle.std.proofs.Common.{rules}
use Rattle.world.proofs.FedLaws.{FedLaws}
use Rattle.world.proofs.Requested.{kept-ready}
use Rattle.world.proofs.Whole.{step-keeps}
use Rattle.world.proofs.world.World.step.Goals as goal

pub happen-output-requires : goal.happen-output-requires
happen-output-requires g c = (
  search rules,
  (kept-ready c.self.inside.cores c.self.invariant, rw (← c.self.view_is) at c.requires.possible),
)

pub invariant_of-self : goal.invariant_of-self
invariant_of-self g c =
    let e = c.fed_replicas_stay_fed.ensures in
    let laws : FedLaws = record {
      fresh = e.fresh;
      commits = e.commits;
      truth = e.truth;
      bytes = e.bytes;
      head = e.head;
      frame = e.frame;
      piece = e.piece;
      opening = e.«open»;
      asking = e.ask;
      renewing = e.renew;
      running = e.run;
      ready = e.ready;
      dump = e.dump;
      identity = e.identity;
      steps = c.steps_are_told.ensures;
    } in
    (step-keeps laws c.self.inside.cores c.args.event.now c.happen-output.result c.happen-output.new.self c.self.invariant
    c.keeps_core.ensures.lists c.happen-output.ensures).kept

pub returns : goal.returns
returns g c =
    let e = c.fed_replicas_stay_fed.ensures in
    let laws : FedLaws = record {
      fresh = e.fresh;
      commits = e.commits;
      truth = e.truth;
      bytes = e.bytes;
      head = e.head;
      frame = e.frame;
      piece = e.piece;
      opening = e.«open»;
      asking = e.ask;
      renewing = e.renew;
      running = e.run;
      ready = e.ready;
      dump = e.dump;
      identity = e.identity;
      steps = c.steps_are_told.ensures;
    } in
    let done =
    step-keeps laws c.self.inside.cores c.args.event.now c.happen-output.result c.happen-output.new.self c.self.invariant
    c.keeps_core.ensures.lists c.happen-output.ensures in
    rw (← c.self.view_is) (record {
      happens = done.happens;
      rows = done.rows;
      durable = done.durable;
      fed = done.fed;
      journal = done.journal c.keeps_core-2.ensures.text;
      leaves = done.leaves;
      faultless = done.faultless;
      schema = done.schema;
      workers = done.workers;
      replicas = done.replicas;
    })
