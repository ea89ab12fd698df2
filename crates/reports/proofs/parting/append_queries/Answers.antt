-- One query more.
use Rattle.std.proofs.Common.{[], ◌+◌, drop, get_or, ◌∙◌, arith}
use Rattle.queries.specs.Report.{queries_text}
use Rattle.reports.proofs.Parts.{queries-next, queries-written}
use Rattle.reports.proofs.parting.append_queries.Goals as goal

pub returns-in_default : goal.returns-in_default
returns-in_default c first answers is within =
    let i = c.loop-index.index in
    let left = (c.loop-index.invariant first answers is within).0 in
    absurd (c.in_default.ensures (first + i) (get_or answers i []) (queries_text (first + (i + 1)) (drop (i + 1) answers))
    (left ∙ queries-next first answers i (omega arith)))

pub loop-index-preserved : goal.loop-index-preserved
loop-index-preserved c first answers is within =
    let i = c.loop-index.index in
    let state = c.loop-index.invariant first answers is within in
    let read =
    c.in-Some.ensures (first + i) (get_or answers i []) (queries_text (first + (i + 1)) (drop (i + 1) answers))
    (state.0 ∙ queries-next first answers i (omega arith)) in (
      read.2,
      queries-written answers i c.in-Some.query.count c.args.part.now.items c.loop-index.part.items c.append_query.new.part.items
          c.in-Some.query.lines.now (omega arith) state.1 read.0 read.1 c.in_ok-append_query.ensures,
    )
