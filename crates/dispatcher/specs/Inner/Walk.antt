-- The text of tables, part by part, as a walk over a store makes it.
use Rattle.std.specs.Prelude.{ℕ, List, [], ◌∷◌, Option, None, Some, slice_get}
use Rattle.std.specs.List.{flat_map}
use Rattle.rows.specs.declared.value.Value.{Value}
use Rattle.rows.specs.Tables.{Rows, Tables, rows_of}
use Rattle.rows.specs.Text.{value_text}
use Rattle.dispatcher.specs.TableText.{row_text}

-- values, each behind a space
abbrev pub columns_text : List Value → List ℕ
columns_text values = flat_map (λ value. 32 ∷ value_text value) values

-- the row at an index of a table's order, where there is one
abbrev pub row_text_at : List ℕ → Rows → ℕ → List ℕ
row_text_at name rows i = of (slice_get rows i)
  where
    of : Option (ℕ × List Value) → List ℕ
    of None = []
    of (Some row) = row_text name row

-- the rows of one of the tables with these names, where there is one
abbrev pub rows_text_at : List (List ℕ) → Tables → ℕ → List ℕ
rows_text_at names tables table = of (slice_get names table)
  where
    of : Option (List ℕ) → List ℕ
    of None = []
    of (Some name) = flat_map (row_text name) (rows_of tables table)
