-- The part of a query after the other is passed.
use Rattle.std.proofs.Common.{[], ◌+◌, drop, get_or, ◌∙◌, arith}
use Rattle.queries.specs.Report.{queries_text}
use Rattle.reports.proofs.Parts.{queries-next}
use Rattle.reports.proofs.reading.behind_queries.Goals as goal

pub returns-in_err-query : goal.returns-in_err-query
returns-in_err-query c first answers is within =
    let i = c.loop-index._index in
    let left = c.loop-index.invariant first answers is within in
    absurd (c.in_err-query.ensures (first + i) (get_or answers i []) (queries_text (first + (i + 1)) (drop (i + 1) answers))
    (left ∙ queries-next first answers i (omega arith)))

pub loop-index-preserved : goal.loop-index-preserved
loop-index-preserved c first answers is within =
    let i = c.loop-index._index in
    let left = c.loop-index.invariant first answers is within in
    (c.in_ok-query.ensures (first + i) (get_or answers i []) (queries_text (first + (i + 1)) (drop (i + 1) answers))
    (left ∙ queries-next first answers i (omega arith))).2
