-- The line is like that of the event that its first word names.
use Rattle.std.proofs.Common.{◌∙◌, sym}
use Rattle.requests.proofs.Reading.{reads-as}
use Rattle.requests.proofs.job_line.read_job_line.Goals as goal

pub returns-in-Some-clause-reads : goal.returns-in-Some-clause-reads
returns-in-Some-clause-reads c =
    reads-as c.args.setup.now c.args.dialect c.args.line.now _ _ c.in-Some.word c.read_as.result
    (sym c.is_kept.ensures ∙ c.if-not-is_kept.false) c.first_word.ensures.first
    c.first_word.ensures.rest c.in-Some.ensures c.read_as.ensures
