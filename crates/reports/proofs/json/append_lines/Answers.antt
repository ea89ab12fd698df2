-- One line more.
use Rattle.std.proofs.Common.{[], ◌+◌, drop, map, get_or, ◌∙◌, arith}
use Rattle.rows.specs.Text.{words_text}
use Rattle.queries.specs.Report.{field_text}
use Rattle.reports.specs.Inner.Pieces.{lines_text}
use Rattle.reports.specs.Json.{line_json}
use Rattle.reports.proofs.Cutting.{line-free}
use Rattle.reports.proofs.Parts.{lines-left}
use Rattle.reports.proofs.Strings.{join-written}
use Rattle.reports.proofs.json.append_lines.Goals as goal

pub returns-in_default : goal.returns-in_default
returns-in_default c lines long is =
    let i = c.loop-index.index in
    let left = (c.loop-index.invariant lines long is).0 in
    absurd (c.in_default.ensures.parts (words_text (map field_text (get_or lines i []))) (lines_text (drop (i + 1) lines))
    (line-free (get_or lines i [])) (left ∙ lines-left lines i (omega arith)))

pub loop-index-preserved : goal.loop-index-preserved
loop-index-preserved c lines long is =
    let i = c.loop-index.index in
    let fields = get_or lines i [] in
    let state = c.loop-index.invariant lines long is in
    let read =
    c.in-Some.ensures.parts (words_text (map field_text fields)) (lines_text (drop (i + 1) lines)) (line-free fields)
    (state.0 ∙ lines-left lines i (omega arith)) in (
      read.1,
      join-written line_json lines i [] c.args.json.now.items c.loop-index.json.items c.append_comma.new.json.items
          c.append_line.new.json.items (omega arith) state.1 c.in_ok-append_comma.ensures (c.in_ok-append_line.ensures fields read.0),
    )
