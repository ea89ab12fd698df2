-- The first line of a report.
use Rattle.std.proofs.Common.{length, ◌∙◌, arith}
use Rattle.queries.specs.Report.{queries_text}
use Rattle.reports.proofs.Parts.{report-form, report-within}
use Rattle.reports.proofs.reading.report_head.Goals as goal

pub returns : goal.returns
returns c version answers is =
    let within = report-within version answers c.args.report.now is in
    c.head_of.ensures version (length answers) (queries_text 0 answers) (omega arith) (is ∙ report-form version answers)
