-- The text so far and the parts of the answers from the index on are the report's.
use Rattle.std.proofs.Common.{◌≡◌, ◌++◌, drop}
use Rattle.queries.specs.Report.{report_text, queries_text}
use Rattle.queries.proofs.reporting.report.Given as goal

abbrev pub invariant-loop-index : goal.invariant-loop-index
invariant-loop-index l = l.text.items ++ queries_text l.index (drop l.index l.answers) ≡ report_text l.fn.version l.answers
