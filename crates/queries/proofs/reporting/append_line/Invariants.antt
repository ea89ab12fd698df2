-- The text so far has the fields before the index.
use Rattle.std.proofs.Common.{◌≡◌, ◌++◌, map, take}
use Rattle.rows.specs.Text.{words_text}
use Rattle.queries.specs.Report.{field_text}
use Rattle.queries.proofs.reporting.append_line.Given as goal

abbrev pub invariant-loop-index : goal.invariant-loop-index
invariant-loop-index l = l.text.items ≡ l.initial.text.items ++ words_text (map field_text (take l.index l.fields))
