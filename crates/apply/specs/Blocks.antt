-- The rows that columns are, beside their identifiers.
use Rattle.std.specs.Prelude.{ℕ, zero, suc, ◌-◌, List, [], ◌∷◌, ◌++◌, map, take, length, Option, None, Some, slice_get}
use Rattle.rows.specs.declared.kind.Kind.{Kind}
use Rattle.rows.specs.declared.value.Value.{Value}
use Rattle.rows.specs.Tables.{Rows, Table, with_column}
use Rattle.rows.specs.Values.{kind_of as kind_of_value}
use Rattle.apply.specs.declared.cells.Cells.{Cells}
use Rattle.apply.specs.Columns.{kind_of, values_in}

-- rows with one more value each, in front of those that they have
abbrev pub beside : List Value → Rows → Rows
beside [] rows = []
beside (value ∷ values) [] = []
beside (value ∷ values) (row ∷ rows) = (row.0, value ∷ row.1) ∷ beside values rows

-- the rows of these identifiers and columns, so many of each
abbrev pub rows_with : ℕ → List ℕ → List Cells → Rows
rows_with count ids [] = map (λ id. (id, [])) ids
rows_with count ids (column ∷ columns) = beside (values_in count column) (rows_with count ids columns)

-- the kinds of columns
abbrev pub kinds_with : List Cells → List Kind
kinds_with columns = map kind_of columns

-- the table of these identifiers and columns
abbrev pub table_with : List ℕ → List Cells → Table
table_with ids columns = record { kinds = kinds_with columns; rows = rows_with (length ids) ids columns }

-- the value of a column of the row at an index
abbrev pub cell_in : Rows → ℕ → ℕ → Option Value
cell_in rows at column = cell (slice_get rows at)
  where
    cell : Option (ℕ × List Value) → Option Value
    cell None = None
    cell (Some row) = slice_get row.1 column

-- a table with one column more, which has this value in each row
abbrev pub wider : Value → Table → Table
wider default table = record { kinds = table.kinds ++ kind_of_value default ∷ []; rows = with_column default table.rows }

-- a table without its last column
abbrev pub narrower : Table → Table
narrower table = record {
  kinds = take (length table.kinds - 1) table.kinds;
  rows = map (λ row. (row.0, take (length row.1 - 1) row.1)) table.rows;
}

-- tables, of which one is without its last column
abbrev pub dropped : List Table → ℕ → List Table
dropped [] table = []
dropped (first ∷ tables) zero = narrower first ∷ tables
dropped (first ∷ tables) (suc table) = first ∷ dropped tables table
