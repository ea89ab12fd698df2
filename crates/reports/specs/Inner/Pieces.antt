-- Pieces of texts.
use Rattle.std.specs.Prelude.{ℕ, zero, suc, ◌≡◌, ◌==◌, false, cond, List, [], ◌∷◌, map, codes, decimal}
use Rattle.std.specs.List.{AllByRecursion, flat_map}
use Rattle.rows.specs.Text.{line_text}
use Rattle.queries.specs.declared.field.Field.{Field}
use Rattle.queries.specs.Report.{field_text}

-- bytes without this byte
abbrev pub IsFreeOf : ℕ → List ℕ → Type 0
IsFreeOf byte bytes = AllByRecursion (λ other. (other == byte) ≡ false) bytes

-- a line of a report
abbrev pub fields_line : List Field → List ℕ
fields_line fields = line_text (map field_text fields)

-- the lines of an answer
abbrev pub lines_text : List (List Field) → List ℕ
lines_text lines = flat_map fields_line lines

-- the first line of a report, and that of a query's part
abbrev pub report_head : List ℕ → ℕ → List ℕ
report_head version count = line_text (codes "version" ∷ version ∷ codes "queries" ∷ decimal count ∷ [])

abbrev pub query_head : ℕ → ℕ → List ℕ
query_head index count = line_text (codes "query" ∷ decimal index ∷ codes "rows" ∷ decimal count ∷ [])

-- what parts a value from those before it
abbrev pub comma_before : ℕ → List ℕ
comma_before zero = []
comma_before (suc index) = codes ","

-- a byte of a line within strings, one for each word
abbrev pub byte_json : ℕ → List ℕ
byte_json byte = cond (byte == 32) (codes "\",\"") (byte ∷ [])
