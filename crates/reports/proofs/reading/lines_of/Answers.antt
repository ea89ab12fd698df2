-- A line after the other is cut off.
use Rattle.std.proofs.Common.{[], ◌++◌, drop, map, get_or, ◌+◌, ◌∙◌, refl, arith}
use Rattle.rows.specs.Text.{words_text}
use Rattle.queries.specs.Report.{field_text}
use Rattle.reports.specs.Inner.Pieces.{lines_text}
use Rattle.reports.proofs.Cutting.{line-free}
use Rattle.reports.proofs.Parts.{lines-next, lines-end, lines-split}
use Rattle.reports.proofs.reading.lines_of.Goals as goal

pub loop-index-init : goal.loop-index-init
loop-index-init c = (omega arith, λ lines back long is. is)

pub returns-in_err-_line : goal.returns-in_err-_line
returns-in_err-_line c lines back long is =
    let i = c.loop-index._index in
    let left = c.loop-index.invariant.1 lines back long is in
    absurd (c.in_err-_line.ensures.parts (words_text (map field_text (get_or lines i []))) (lines_text (drop (i + 1) lines) ++ back)
    (line-free (get_or lines i [])) (left ∙ lines-next lines back i (omega arith)))

pub loop-index-preserved : goal.loop-index-preserved
loop-index-preserved c = (
  omega (arith, c.in_ok-_line.ensures.shorter),
  λ lines back long is.
      let i = c.loop-index._index in
      let left = c.loop-index.invariant.1 lines back long is in
      (c.in_ok-_line.ensures.parts (words_text (map field_text (get_or lines i []))) (lines_text (drop (i + 1) lines) ++ back)
      (line-free (get_or lines i [])) (left ∙ lines-next lines back i (omega arith))).1,
)

pub returns : goal.returns
returns c lines back long is =
    let left =
    lines-end lines back c.loop-index.rest.now c.loop-index._index c.args.count long c.loop-index-test.false
    (c.loop-index.invariant.1 lines back long is) in
    let parts = lines-split (lines_text lines) back c.args.text.now c.loop-index.rest.now _ is left refl in
    (c.split_at.ensures.front ∙ parts.0, c.split_at.ensures.back ∙ parts.1)
