-- The text is that of the run.
use Rattle.std.proofs.Common.{rules}
use Rattle.std.proofs.lemmas.Result.{on_ok_weaker}
use Rattle.world.specs.Cores.{new_opening}
use Rattle.world.specs.Theorem.{KeepsPromises}
use Rattle.world.proofs.script_running.play_events.Goals as goal

pub returns-clause-printed : goal.returns-clause-printed
returns-clause-printed g c =
    let outputs = c.in-Ok.outputs.items in
    let kept : KeepsPromises (new_opening c.args.setup.now) c.args.events.now outputs = record {
      promise = search rules;
      renewed = search rules;
      each = search rules;
      run = search rules;
      dumps = search rules;
      faultless = search rules;
    } in
    on_ok_weaker c.write_out.result (λ written. (outputs, kept, written))
    (rw c.as_slice.ensures.value at c.write_out.ensures.written)

pub returns-clause-interrupted : goal.returns-clause-interrupted
returns-clause-interrupted g c = λ same.
    let outputs = c.in-Ok.outputs.items in
    let kept : KeepsPromises (new_opening c.args.setup.now) c.args.events.now outputs = record {
      promise = search rules;
      renewed = search rules;
      each = search rules;
      run = search rules;
      dumps = search rules;
      faultless = search rules;
    } in
    (outputs, kept, (rw c.as_slice.ensures.value at c.write_out.ensures.interrupted) same)
