-- One answer more.
use Rattle.std.proofs.Common.{[], ◌+◌, drop, get_or, sym, ◌∙◌, arith}
use Rattle.std.proofs.lemmas.Result.{err_from_is_err_and}
use Rattle.queries.specs.Report.{queries_text}
use Rattle.reports.specs.Json.{answer_json}
use Rattle.reports.proofs.Parts.{queries-next}
use Rattle.reports.proofs.Strings.{join-written}
use Rattle.reports.proofs.json.append_answers.Goals as goal

pub returns-in_default : goal.returns-in_default
returns-in_default c first answers is long =
    let i = c.loop-index.index in
    let left = (c.loop-index.invariant first answers is long).0 in
    absurd (c.in_default.ensures (first + i) (get_or answers i []) (queries_text (first + (i + 1)) (drop (i + 1) answers))
    (left ∙ queries-next first answers i (omega arith)))

pub returns-in_err-append_answer : goal.returns-in_err-append_answer
returns-in_err-append_answer c first answers is long =
    let i = c.loop-index.index in
    let left = (c.loop-index.invariant first answers is long).0 in
    let read =
    c.in-Some.ensures (first + i) (get_or answers i []) (queries_text (first + (i + 1)) (drop (i + 1) answers))
    (left ∙ queries-next first answers i (omega arith)) in
    let p = err_from_is_err_and c.from_residual-in_err-append_answer.result c.from_residual-in_err-append_answer.ensures.1 in
    rw (p.1, p.2) (c.in_err-append_answer.ensures (get_or answers i []) (sym read.0) read.1)

pub loop-index-preserved : goal.loop-index-preserved
loop-index-preserved c first answers is long =
    let i = c.loop-index.index in
    let state = c.loop-index.invariant first answers is long in
    let read =
    c.in-Some.ensures (first + i) (get_or answers i []) (queries_text (first + (i + 1)) (drop (i + 1) answers))
    (state.0 ∙ queries-next first answers i (omega arith)) in (
      read.2,
      join-written answer_json answers i [] c.args.json.now.items c.loop-index.json.items c.append_comma.new.json.items
          c.append_answer.new.json.items (omega arith) state.1 c.in_ok-append_comma.ensures
          (c.in_ok-append_answer.ensures (get_or answers i []) (sym read.0) read.1),
    )
