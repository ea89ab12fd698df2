-- Each answer is that of the job beside it.
use Rattle.std.proofs.Common.{◌≡◌, ap, sym, ◌∙◌, subst, arith, take, OnOk}
use Rattle.std.specs.Io.KnownBytes.{Appends}
use Rattle.std.proofs.lemmas.List.{take_all}
use Rattle.rows.specs.Shape.{shape_of}
use Rattle.sockets.specs.declared.job_answer.JobAnswer.TheVariants.{Ticket}
use Rattle.sockets.specs.Answers.{IsJobAnswer}
use Rattle.requests.specs.AnswerLines.{numbered_lines}
use Rattle.nodes.proofs.Choosing.{zip-at, zip-long}
use Rattle.requests.proofs.Telling.{numbered-next}
use Rattle.nodes.proofs.answers.tell_all.Goals as goal

pub bounds-jobs-index : goal.bounds-jobs-index
bounds-jobs-index g c =
    let R = IsJobAnswer (shape_of g.L.Line.schema) 0 c.args.worker.now.seat.list in
    let long = zip-long R c.args.jobs.now c.args.answers.now c.requires in
    omega (arith, long, c.loop-index-test.true)

pub push_answer-requires : goal.push_answer-requires
push_answer-requires g c =
    zip-at (IsJobAnswer (shape_of g.L.Line.schema) 0 c.args.worker.now.seat.list) c.args.jobs.now c.args.answers.now c.loop-index.index
    c.index-jobs-index.result (Ticket 0) c.requires c.loop-index-test.true c.index-jobs-index.is

pub loop-index-preserved : goal.loop-index-preserved
loop-index-preserved g c =
    c.in-Ok.ensures
    ∙ (rw c.loop-index.invariant (sym (numbered-next c.args.answers.now c.loop-index.index (Ticket 0) c.loop-index-test.true)))

pub returns : goal.returns
returns g c =
    let all : take c.loop-index.index c.args.answers.now ≡ c.args.answers.now =
    take_all c.loop-index.index c.args.answers.now (omega (arith, c.loop-index-test.false)) in
    subst (λ text. OnOk c.print.result (Appends (g.W.Write.contents c.args.writer.now) (g.W.Write.contents c.print.new.writer) text))
    (c.as_slice.ensures.value ∙ (c.loop-index.invariant ∙ ap (numbered_lines 0) all)) c.print.ensures
