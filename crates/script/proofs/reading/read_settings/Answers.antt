-- A line more begins a script, or has the fault; where nothing is left, all lines were read.
use Rattle.std.proofs.Common.{[], refl, ◌∙◌, arith}
use Rattle.script.specs.Scripts.{IsSettingsFaultNext, lines_of}
use Rattle.script.proofs.Beginnings.{is-at, beginning-more, fault-at, fault-at-end, end-reached, all-read}
use Rattle.script.proofs.reading.read_settings.Goals as goal

pub returns-in-Err-Because : goal.returns-in-Err-Because
returns-in-Err-Because c =
    let falls = c.loop-rest.invariant.behind ∙ c.first_line.ensures.parts in
    rw c.in-Err-Because.reason-is
    (fault-at IsSettingsFaultNext c.args.text.now c.loop-rest.line c.first_line.result.0.now (lines_of c.first_line.result.1.now)
    c.loop-rest.settings [] c.in-Err-Because.reason falls c.loop-rest.invariant.before
    (rw c.in-Err-Because.field-0-is at c.in-Err-Because.ensures))

pub loop-rest-preserved : goal.loop-rest-preserved
loop-rest-preserved c =
    let text = c.args.text.now in
    let line = c.first_line.result.0.now in
    let falls = c.loop-rest.invariant.behind ∙ c.first_line.ensures.parts in
    let here = is-at (lines_of text) c.loop-rest.line line (lines_of c.first_line.result.1.now) falls in
    record {
      bytes = omega (arith, c.first_line.ensures.shorter);
      lines = omega (arith, here.within);
      behind = here.behind;
      before =
          rw here.before
          (beginning-more _ line c.loop-rest.settings c.in-Ok.settings []
          [] c.loop-rest.invariant.before c.in-Ok.ensures);
    }

pub returns-in-Some : goal.returns-in-Some
returns-in-Some c =
    let kept = c.loop-rest.invariant in
    let all = end-reached c.args.text.now c.loop-rest.rest.now c.loop-rest.line kept.lines kept.behind c.loop-rest-test.ensures in
    rw c.in-Some.ensures at
    (all-read c.args.text.now c.loop-rest.line c.loop-rest.settings [] all kept.before)

pub returns-in-None : goal.returns-in-None
returns-in-None c =
    let kept = c.loop-rest.invariant in
    let all = end-reached c.args.text.now c.loop-rest.rest.now c.loop-rest.line kept.lines kept.behind c.loop-rest-test.ensures in
    fault-at-end IsSettingsFaultNext c.args.text.now c.loop-rest.line c.loop-rest.settings []
    all kept.before (c.in-None.ensures, refl)
