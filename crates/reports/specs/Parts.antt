-- A report, shared out.
use Rattle.std.specs.Prelude.{ℕ, List, [], ◌∷◌, take, drop}
use Rattle.queries.specs.declared.field.Field.{Field}
use Rattle.queries.specs.Report.{report_text}

-- the reports of so many answers, of as many behind these as the next number says, and so on
abbrev pub report_parts : ℕ → List ℕ → List (List (List Field)) → List (List ℕ)
report_parts version [] answers = []
report_parts version (count ∷ counts) answers = report_text version (take count answers) ∷ report_parts version counts (drop count answers)
