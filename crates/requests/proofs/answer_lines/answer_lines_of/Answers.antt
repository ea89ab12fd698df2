-- One line more.
use Rattle.std.proofs.Common.{sym, ◌∙◌}
use Rattle.sockets.specs.declared.job_answer.JobAnswer.TheVariants.{Ticket}
use Rattle.requests.proofs.Telling.{numbered-next}
use Rattle.requests.proofs.answer_lines.answer_lines_of.Goals as goal

pub loop-number-preserved : goal.loop-number-preserved
loop-number-preserved c =
    c.in_ok-push_answer_line.ensures
    ∙ rw c.loop-number.invariant (sym (numbered-next c.args.answers.now c.loop-number.number (Ticket 0) c.loop-number-test.true))
