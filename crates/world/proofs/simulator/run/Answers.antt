-- Each promise is one of those that a run on any number of partitions keeps.
use Rattle.std.proofs.lemmas.Result.{IfOk-weaker}
use Rattle.world.specs.Cores.{new_opening}
use Rattle.world.specs.Theorem.{KeepsPromises}
use Rattle.world.proofs.simulator.run.Goals as goal

pub returns : goal.returns
returns g c = record {
  promise =
      IfOk-weaker _ (λ outputs. KeepsPromises (new_opening c.args.setup.now) c.args.events.now outputs.items) _ (λ _ kept. kept.promise)
      c.run_on.ensures;
  renewed =
      IfOk-weaker _ (λ outputs. KeepsPromises (new_opening c.args.setup.now) c.args.events.now outputs.items) _ (λ _ kept. kept.renewed)
      c.run_on.ensures;
  each =
      IfOk-weaker _ (λ outputs. KeepsPromises (new_opening c.args.setup.now) c.args.events.now outputs.items) _ (λ _ kept. kept.each)
      c.run_on.ensures;
  run =
      IfOk-weaker _ (λ outputs. KeepsPromises (new_opening c.args.setup.now) c.args.events.now outputs.items) _ (λ _ kept. kept.run)
      c.run_on.ensures;
  dumps =
      IfOk-weaker _ (λ outputs. KeepsPromises (new_opening c.args.setup.now) c.args.events.now outputs.items) _ (λ _ kept. kept.dumps)
      c.run_on.ensures;
  faultless =
      IfOk-weaker _ (λ outputs. KeepsPromises (new_opening c.args.setup.now) c.args.events.now outputs.items) _ (λ _ kept. kept.faultless)
      c.run_on.ensures;
}
