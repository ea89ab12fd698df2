-- What entries make of one column of one row, told from the entries alone. `None` stands for a row that is not there,
-- and `Some None` for one that has no such column.
use Rattle.std.specs.Prelude.{◌≡◌, ℕ, List, [], ◌∷◌, length, Option, None, Some, ◌==◌, if◌then◌else◌, slice_get, take, is_ok, IfSome}
use Rattle.std.specs.Option.{option_map}
use Rattle.rows.specs.declared.entry.Entry.{Entry}
use Rattle.rows.specs.declared.entry.Entry.TheVariants.{Insert, Patch, Delete, AddColumn}
use Rattle.rows.specs.declared.kind.Kind.{Kind}
use Rattle.rows.specs.declared.value.Value.{Value}
use Rattle.rows.specs.Shape.{row_width, column_at}
use Rattle.rows.specs.Values.{value_of, values_of}
use Rattle.rows.specs.Entries.{addable}
use Rattle.rows.specs.Commits.{is_of}
use Rattle.mvcc.specs.Transactions.{match_column}
use Rattle.mvcc.specs.Inner.Columns.{kinds_after_one}

-- one column of a row
abbrev pub cell_of : ℕ → Option (List Value) → Option (Option Value)
cell_of column row = option_map (λ values. slice_get values column) row

-- where a column begins among the bytes of a row of these columns, if this is a value of it
abbrev pub offset_in : List Kind → ℕ → Value → Option ℕ
offset_in kinds column value =
    if match_column value (slice_get kinds column) then Some (row_width (take column kinds)) else None

-- what the bytes of a row make of a column, where they are inserted: nothing where the row was there
abbrev pub inserted_cell : List Kind → List ℕ → ℕ → Option (Option Value) → Option (Option Value)
inserted_cell kinds bytes column None = Some (slice_get (values_of kinds bytes) column)
inserted_cell kinds bytes column (Some value) = Some value

-- what a patch of these bytes from an offset of the row on makes of a column
abbrev pub patched_cell : List Kind → ℕ → List ℕ → ℕ → Option Value → Option Value
patched_cell kinds offset bytes column value = put (column_at kinds offset (length bytes))
  where
    put : Option (ℕ × Kind) → Option Value
    put None = value
    put (Some found) = if found.0 == column then option_map (λ was. value_of found.1 bytes) value else value

-- what a column that is added behind these makes of a column: it is the new one, or it stays
abbrev pub added_cell : List Kind → Value → ℕ → Option Value → Option Value
added_cell kinds default column value = if column == length kinds then Some default else value

-- what an entry of a row with columns of these kinds makes of a column
abbrev pub cell_after_one : List Kind → ℕ → Entry → Option (Option Value) → Option (Option Value)
cell_after_one kinds column (Insert table row bytes) cell =
    if length bytes == row_width kinds then inserted_cell kinds bytes column cell else cell
cell_after_one kinds column (Patch table row offset bytes) cell = option_map (patched_cell kinds offset bytes column) cell
cell_after_one kinds column (Delete table row) cell = None
cell_after_one kinds column (AddColumn table default) cell =
    if is_ok (addable (Some kinds) default) then option_map (added_cell kinds default column) cell else cell

-- what an entry makes of a column of this row: one of another row leaves it
abbrev pub cell_after_entry : List Kind → ℕ → ℕ → ℕ → Entry → Option (Option Value) → Option (Option Value)
cell_after_entry kinds table row column entry cell = if is_of table row entry then cell_after_one kinds column entry cell else cell

-- what entries make of it, one after the other, where none of them adds a column
abbrev pub cell_after : List Kind → ℕ → ℕ → ℕ → List Entry → Option (Option Value) → Option (Option Value)
cell_after kinds table row column [] cell = cell
cell_after kinds table row column (entry ∷ entries) cell =
    cell_after kinds table row column entries (cell_after_entry kinds table row column entry cell)

-- what entries make of it, the kinds of the row's table going along
abbrev pub cell_walked : List Kind → ℕ → ℕ → ℕ → List Entry → Option (Option Value) → Option (Option Value)
cell_walked kinds table row column [] cell = cell
cell_walked kinds table row column (entry ∷ entries) cell =
    cell_walked (kinds_after_one table kinds entry) table row column entries (cell_after_entry kinds table row column entry cell)

-- a row that is there has a value for each of these kinds
abbrev pub IsAsMany : List Kind → Option (List Value) → Type 0
IsAsMany kinds was = IfSome was (λ values. length values ≡ length kinds)
