-- The text of tables at a version. Numbers are decimal.
use Rattle.std.specs.Prelude.{ℕ, List, [], ◌∷◌, ◌++◌, length, map, codes, decimal}
use Rattle.std.specs.List.{flat_map, sum_by}
use Rattle.rows.specs.declared.kind.Kind.{Kind}
use Rattle.rows.specs.declared.value.Value.{Value}
use Rattle.rows.specs.Tables.{Tables}
use Rattle.rows.specs.Text.{value_text, line_text}

-- the names of a schema's tables, in its order
abbrev pub names_of : List (List ℕ × List Kind) → List (List ℕ)
names_of schema = map (λ table. table.0) schema

-- a row of the table with this name: its identifier and its values
abbrev pub row_text : List ℕ → ℕ × List Value → List ℕ
row_text name row = line_text (name ∷ decimal row.0 ∷ map value_text row.1)

-- the rows of tables with these names, table by table
abbrev pub rows_text : List (List ℕ) → Tables → List ℕ
rows_text (name ∷ names) (table ∷ tables) = flat_map (row_text name) table.rows ++ rows_text names tables
rows_text names tables = []

-- how many rows the tables have in all
abbrev pub row_count : Tables → ℕ
row_count tables = sum_by (λ table. length table.rows) tables

-- the text of tables with these names at a version: a line of the version and the number of rows, then a line for each row
abbrev pub table_text : List (List ℕ) → ℕ → Tables → List ℕ
table_text names version tables =
    line_text (codes "version" ∷ decimal version ∷ codes "rows" ∷ decimal (row_count tables) ∷ []) ++ rows_text names tables
