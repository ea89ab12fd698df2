-- The text so far and the lines from the index on are the query's part.
use Rattle.std.proofs.Common.{◌≡◌, ◌++◌, map, drop}
use Rattle.std.specs.List.{flat_map}
use Rattle.rows.specs.Text.{line_text}
use Rattle.queries.specs.Report.{field_text, query_text}
use Rattle.queries.proofs.reporting.append_answer.Given as goal

abbrev pub invariant-loop-line : goal.invariant-loop-line
invariant-loop-line l =
    l.text.items ++ flat_map (λ fields. line_text (map field_text fields)) (drop l.line-index l.line-items)
    ≡ l.fn.text.items ++ query_text l.fn.index l.fn.answer
