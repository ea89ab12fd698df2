-- The text is that of the events that are read.
use Rattle.std.proofs.Common.{List, rules, refl}
use Rattle.std.proofs.lemmas.Result.{on_ok_weaker}
use Rattle.script.specs.declared.output.Output.{Output}
use Rattle.world.specs.Cores.{new_opening}
use Rattle.world.specs.Scripts.{IsPrinted, run_text}
use Rattle.world.specs.Theorem.{KeepsPromises}
use Rattle.world.proofs.script_running.play.Goals as goal

pub returns-clause-printed : goal.returns-clause-printed
returns-clause-printed g c =
    let printed : (outputs : List Output) → KeepsPromises (new_opening c.in-Ok.read.0) c.in-Ok.read.1.items outputs
    → IsPrinted c.args.echo c.args.script.now (run_text c.args.echo c.in-Ok.read.0 c.in-Ok.read.1.items outputs) =
    λ outputs kept. record {
      setup = c.in-Ok.read.0;
      events = c.in-Ok.read.1.items;
      outputs = outputs;
      read = search rules;
      kept = kept;
      text_is = refl;
    } in
    on_ok_weaker c.play_events.result (λ played. (_, printed played.0 played.1, played.2))
    (rw c.as_slice.ensures.value at c.play_events.ensures.printed)

pub returns-clause-interrupted : goal.returns-clause-interrupted
returns-clause-interrupted g c = λ same.
    let printed : (outputs : List Output) → KeepsPromises (new_opening c.in-Ok.read.0) c.in-Ok.read.1.items outputs
    → IsPrinted c.args.echo c.args.script.now (run_text c.args.echo c.in-Ok.read.0 c.in-Ok.read.1.items outputs) =
    λ outputs kept. record {
      setup = c.in-Ok.read.0;
      events = c.in-Ok.read.1.items;
      outputs = outputs;
      read = search rules;
      kept = kept;
      text_is = refl;
    } in
    let played = (rw c.as_slice.ensures.value at c.play_events.ensures.interrupted) same in
    (_, printed played.0 played.1, played.2)

pub returns-clause-faulty : goal.returns-clause-faulty
returns-clause-faulty g c line reason same = absurd (c.play_events.ensures.other line reason same)
