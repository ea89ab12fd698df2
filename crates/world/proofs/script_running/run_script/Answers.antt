-- What was read is the script that is played.
use Rattle.std.proofs.Common.{rules}
use Rattle.std.proofs.lemmas.Result.{on_ok_weaker}
use Rattle.world.specs.Scripts.{WasRead}
use Rattle.world.proofs.script_running.run_script.Goals as goal

pub returns-clause-printed : goal.returns-clause-printed
returns-clause-printed g c =
    let script = c.read_to_end.new.buf.items in
    let given : WasRead (g.R.Read.remaining c.args.reader.now) (g.R.Read.remaining c.read_to_end.new.self) script = search rules in
    on_ok_weaker c.play.result (λ played. (script, played.0, given, played.1, played.2))
    (rw c.as_slice.ensures.value at c.play.ensures.printed)

pub returns-clause-interrupted : goal.returns-clause-interrupted
returns-clause-interrupted g c = λ same.
    let script = c.read_to_end.new.buf.items in
    let given : WasRead (g.R.Read.remaining c.args.reader.now) (g.R.Read.remaining c.read_to_end.new.self) script = search rules in
    let played = (rw c.as_slice.ensures.value at c.play.ensures.interrupted) same in
    (script, played.0, given, played.1, played.2)

pub returns-clause-faulty : goal.returns-clause-faulty
returns-clause-faulty g c line reason same =
    let script = c.read_to_end.new.buf.items in
    let given : WasRead (g.R.Read.remaining c.args.reader.now) (g.R.Read.remaining c.read_to_end.new.self) script = search rules in
    (script, given, (rw c.as_slice.ensures.value at c.play.ensures.faulty) line reason same)
