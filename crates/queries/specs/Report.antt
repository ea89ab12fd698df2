-- The text of answers. Numbers are decimal.
use Rattle.std.specs.Prelude.{ℕ, ◌+◌, List, [], ◌∷◌, ◌++◌, length, map, codes, decimal}
use Rattle.std.specs.Fmt.{signed_decimal}
use Rattle.std.specs.List.{flat_map}
use Rattle.rows.specs.Text.{value_text, line_text}
use Rattle.queries.specs.declared.field.Field.{Field}
use Rattle.queries.specs.declared.field.Field.TheVariants.{Stored, Number, Absent}

-- a field; `-` is the least and the greatest of no rows
abbrev pub field_text : Field → List ℕ
field_text (Stored value) = value_text value
field_text (Number number) = signed_decimal number
field_text Absent = codes "-"

-- the part of a query: its number and how many lines it has, and those lines
abbrev pub query_text : ℕ → List (List Field) → List ℕ
query_text index lines =
    line_text (codes "query" ∷ decimal index ∷ codes "rows" ∷ decimal (length lines) ∷ [])
    ++ flat_map (λ fields. line_text (map field_text fields)) lines

-- the parts of queries, the first of which has this number
abbrev pub queries_text : ℕ → List (List (List Field)) → List ℕ
queries_text index [] = []
queries_text index (answer ∷ answers) = query_text index answer ++ queries_text (index + 1) answers

-- the text of answers on the tables at a version: the version and how many queries there are, and the part of each
abbrev pub report_text : ℕ → List (List (List Field)) → List ℕ
report_text version answers =
    line_text (codes "version" ∷ decimal version ∷ codes "queries" ∷ decimal (length answers) ∷ []) ++ queries_text 0 answers
