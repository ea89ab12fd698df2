-- The events so far, with the outputs so far, are those of a run of the cores to where they are, from wherever they began.
use Rattle.std.proofs.Common.{◌≡◌, length, take}
use Rattle.world.specs.Cores.{Opening, cores_started}
use Rattle.world.proofs.Continuing.{RunsSoFar}
use Rattle.world.proofs.simulator.step_through.Given as goal

abbrev pub invariant-loop-event : goal.invariant-loop-event
invariant-loop-event g l = record {
  schema : l.world.primary.schema ≡ l.initial.world.primary.schema;
  workers : l.world.primary.workers ≡ l.initial.world.primary.workers;
  replicas : length l.world.replicas ≡ length l.initial.world.replicas;
  so_far : (opening : Opening) → l.initial.world ≡ cores_started opening
      → RunsSoFar opening (take l.event-index l.events) l.outputs.items l.world;
}
