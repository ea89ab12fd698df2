-- Each answer is that of the job beside it, and has its number.
use Rattle.std.proofs.Common.{◌<◌, ap, sym, ◌∙◌, subst, arith, length, take, OnOk}
use Rattle.std.specs.Io.KnownBytes.{Appends}
use Rattle.std.specs.List.{AllZip}
use Rattle.std.specs.Prelude.{map}
use Rattle.rows.specs.Shape.{shape_of}
use Rattle.sockets.specs.declared.job_answer.JobAnswer.TheVariants.{Ticket}
use Rattle.sockets.specs.Answers.{IsJobAnswer}
use Rattle.nodes.specs.Lines.{answer_lines, number_of}
use Rattle.nodes.proofs.Choosing.{front-at}
use Rattle.nodes.proofs.Telling.{told-next, told-all}
use Rattle.nodes.proofs.answers.tell_answers.Goals as goal

pub push_answer-requires : goal.push_answer-requires
push_answer-requires g c =
    let R = IsJobAnswer (shape_of g.L.Line.schema) 0 c.args.worker.now.seat.list in
    let all =
    subst (λ answers. AllZip R (take (length answers) c.args.jobs.now) answers) (sym c.answers-answers.ensures) c.requires.answered in
    front-at R c.args.jobs.now c.answers-answers.result.now c.loop-index.index c.index-jobs-index.result (Ticket 0) all
    c.loop-index-test.true c.index-jobs-index.is

pub loop-index-preserved : goal.loop-index-preserved
loop-index-preserved g c =
    let long = ap length c.answers-answers.ensures in
    let lt : c.loop-index.index < length c.args.places.now =
    omega (arith, long, c.requires.each, c.requires.few, c.loop-index-test.true) in
    c.in-Ok.ensures
    ∙ (rw c.loop-index.invariant
    (sym (told-next c.args.places.now c.answers-answers.result.now c.loop-index.index c.index-places-index.result (Ticket 0)
    c.loop-index-test.true lt)))

pub returns : goal.returns
returns g c =
    subst (λ text. OnOk c.print.result (Appends (g.W.Write.contents c.args.writer.now) (g.W.Write.contents c.print.new.writer) text))
    (c.as_slice.ensures.value
    ∙ (c.loop-index.invariant
    ∙ (told-all c.args.places.now c.answers-answers.result.now c.loop-index.index c.loop-index-test.false c.loop-index.auto.index-end
    ∙ ap (answer_lines (map number_of c.args.places.now)) c.answers-answers.ensures))) c.print.ensures
