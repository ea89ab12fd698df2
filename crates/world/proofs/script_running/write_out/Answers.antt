-- A flush keeps what was written, also where it fails.
use Rattle.std.proofs.Common.{rules, [], sym, append-nil}
use Rattle.world.specs.Scripts.{run_text}
use Rattle.world.proofs.script_running.write_out.Goals as goal

pub returns-in-Err-clause-interrupted : goal.returns-in-Err-clause-interrupted
returns-in-Err-clause-interrupted g c = λ same.
    let text = run_text c.args.echo c.args.setup.now c.args.events.now c.args.outputs.now in
    ([], (text, sym (append-nil text), search rules))
