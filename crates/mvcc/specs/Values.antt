-- The value of one column of one row.
use Rattle.std.specs.Prelude.{ℕ, Option, slice_get}
use Rattle.std.specs.Option.{option_and_then}
use Rattle.rows.specs.declared.value.Value.{Value}
use Rattle.rows.specs.Tables.{Tables, rows_of, row_at}

-- the value of a column of a row; none if the row is not there, or has no such column
abbrev pub value_in : Tables → ℕ → ℕ → ℕ → Option Value
value_in tables table row column = option_and_then (λ values. slice_get values column) (row_at (rows_of tables table) row)
