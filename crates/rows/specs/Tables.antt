-- The tables of a database, and what one entry or many make of them.
--
-- A table has the kinds of its columns, and the list of its rows in rising identifier, each with
-- its values: tables of the same kinds and rows are equal. An entry that fits and finds what it
-- needs changes one row, or adds a column to every row of a table, and any other is refused.
use Rattle.std.specs.Prelude.{ℕ, List, [], ◌∷◌, ◌++◌, map, length, Bool, Option, None, Some, Result, Ok, Err, ◌==◌, not, if◌then◌else◌}
use Rattle.std.specs.Prelude.{slice_get}
use Rattle.std.specs.Prelude.{◌≡◌, true, slice_set, is_some, is_ok, IfSome}
use Rattle.std.specs.List.{filter}
use Rattle.std.specs.Option.{option_map_or}
use Rattle.std.specs.Result.{result_unwrap_or}
use Rattle.std.specs.Ordering.{nat_cmp}
use Rattle.std.specs.Map.{lookup, set_value}
use Rattle.std.specs.BTreeMap.{is_at, insert_entry}
use Rattle.rows.specs.declared.entry.Entry.{Entry}
use Rattle.rows.specs.declared.entry.Entry.TheVariants.{Insert, Patch, Delete, AddColumn}
use Rattle.rows.specs.declared.kind.Kind.{Kind}
use Rattle.rows.specs.declared.value.Value.{Value}
use Rattle.rows.specs.Shape.{Shape, kinds_in, column_at}
use Rattle.rows.specs.Values.{value_of, values_of, are_of_kinds, kind_of}
use Rattle.rows.specs.Entries.{fitting}

-- a table's rows in rising identifier, each with its values
abbrev pub Rows : Type 0
Rows = List (ℕ × List Value)

-- one table: the kinds of its columns, and its rows
pub record Table : Type 0 where
  pub kinds : List Kind
  pub rows : Rows

-- all tables, by number
abbrev pub Tables : Type 0
Tables = List Table

-- a database before its first commit: each table is empty
abbrev pub opening : Shape → Tables
opening shape = map (λ kinds. record { kinds = kinds; rows = [] }) shape

-- the kinds of each table's columns
abbrev pub shape_in : Tables → Shape
shape_in tables = map (λ table. table.kinds) tables

-- the kinds of a table's columns; none if there is no table of that number
abbrev pub kinds_of : Tables → ℕ → List Kind
kinds_of tables table = kinds_in (shape_in tables) table

-- the rows of a table; none if there is no table of that number
abbrev pub rows_of : Tables → ℕ → Rows
rows_of tables table = option_map_or (λ found. found.rows) (slice_get tables table) []

-- the values of a row, if it is there
abbrev pub row_at : Rows → ℕ → Option (List Value)
row_at rows row = lookup (is_at (nat_cmp row)) rows

-- whether these rows have one of that identifier
abbrev pub is_present : Rows → ℕ → Bool
is_present rows row = is_some (row_at rows row)

-- whether the row of that table is there
abbrev pub is_row_at : Tables → ℕ → ℕ → Bool
is_row_at tables table row = is_present (rows_of tables table) row

-- each row has a value for each of its table's columns, of the column's kind
abbrev pub RowsAreOfKinds : Tables → Type 0
RowsAreOfKinds tables =
    (table row : ℕ) → IfSome (row_at (rows_of tables table) row) (λ values. are_of_kinds values (kinds_of tables table) ≡ true)

-- these rows, with one more put in
abbrev pub with_row : Rows → ℕ → List Value → Rows
with_row rows row values = insert_entry nat_cmp rows row values

-- a row's values with these bytes as one column's
abbrev pub patched_row : List Kind → ℕ → List ℕ → List Value → List Value
patched_row kinds offset bytes values = put (column_at kinds offset (length bytes))
  where
    put : Option (ℕ × Kind) → List Value
    put None = values
    put (Some column) = slice_set values column.0 (value_of column.1 bytes)

-- these rows, with these bytes as one column's of one of them
abbrev pub with_patch : List Kind → Rows → ℕ → ℕ → List ℕ → Rows
with_patch kinds rows row offset bytes = put (row_at rows row)
  where
    put : Option (List Value) → Rows
    put None = rows
    put (Some values) = set_value (is_at (nat_cmp row)) rows (patched_row kinds offset bytes values)

-- these rows without one of them
abbrev pub without_row : Rows → ℕ → Rows
without_row rows row = filter (λ entry. not (entry.0 == row)) rows

-- these rows, each with this value behind those that it has
abbrev pub with_column : Value → Rows → Rows
with_column default rows = map (λ row. (row.0, row.1 ++ default ∷ [])) rows

-- why a change is refused
pub data Refusal : Type 0 where
  -- the entry does not fit the tables
  Unfit : Refusal
  -- it inserts a row that is there
  Exists : Refusal
  -- it changes a row that is not there
  Missing : Refusal

-- the tables with these rows in one of them
abbrev pub with_rows : Tables → ℕ → Rows → Tables
with_rows tables table rows = slice_set tables table (record { kinds = kinds_of tables table; rows = rows })

-- the tables with this row put in
abbrev pub inserted : Tables → ℕ → ℕ → List ℕ → Tables
inserted tables table row bytes = with_rows tables table (with_row (rows_of tables table) row (values_of (kinds_of tables table) bytes))

-- the tables with these bytes as one column's of that row
abbrev pub patched : Tables → ℕ → ℕ → ℕ → List ℕ → Tables
patched tables table row offset bytes =
    with_rows tables table (with_patch (kinds_of tables table) (rows_of tables table) row offset bytes)

-- the tables without that row
abbrev pub deleted : Tables → ℕ → ℕ → Tables
deleted tables table row = with_rows tables table (without_row (rows_of tables table) row)

-- the tables with one more column in one of them, which has this value in each row
abbrev pub widened : Tables → ℕ → Value → Tables
widened tables table default =
    slice_set tables table (record {
      kinds = kinds_of tables table ++ kind_of default ∷ [];
      rows = with_column default (rows_of tables table);
    })

-- whether an entry fits where it stands, by the kinds that the tables' columns have there
abbrev pub is_fit : Tables → Entry → Bool
is_fit tables entry = is_ok (fitting (shape_in tables) entry)

-- a change of an entry that fits or not, whose row stands as the entry needs it or not
abbrev pub change_where : Bool → Bool → Refusal → Tables → Result Tables Refusal
change_where fits stands refusal after = if fits then (if stands then Ok after else Err refusal) else Err Unfit

-- whether an entry's row stands as the entry needs it: absent for an insert, there for a patch and a delete. An added column needs none
abbrev pub stands : Tables → Entry → Bool
stands tables (Insert table row bytes) = not (is_row_at tables table row.0)
stands tables (Patch table row offset bytes) = is_row_at tables table row.0
stands tables (Delete table row) = is_row_at tables table row.0
stands tables (AddColumn table default) = true

-- why an entry is refused whose row does not stand as it needs it
abbrev pub refusal_of : Entry → Refusal
refusal_of (Insert table row bytes) = Exists
refusal_of (Patch table row offset bytes) = Missing
refusal_of (Delete table row) = Missing
refusal_of (AddColumn table default) = Missing

-- the tables that an entry makes
abbrev pub made : Tables → Entry → Tables
made tables (Insert table row bytes) = inserted tables table row.0 bytes
made tables (Patch table row offset bytes) = patched tables table row.0 offset bytes
made tables (Delete table row) = deleted tables table row.0
made tables (AddColumn table default) = widened tables table default

-- the tables after one entry, or why it is refused
abbrev pub apply_entry : Tables → Entry → Result Tables Refusal
apply_entry tables entry = change_where (is_fit tables entry) (stands tables entry) (refusal_of entry) (made tables entry)

-- what comes after a change, if it is not refused
abbrev pub and_then : (Tables → Result Tables Refusal) → Result Tables Refusal → Result Tables Refusal
and_then next (Ok tables) = next tables
and_then next (Err refusal) = Err refusal

-- the tables after a list of entries, one after the other, or the first refusal
abbrev pub apply_entries : Tables → List Entry → Result Tables Refusal
apply_entries tables [] = Ok tables
apply_entries tables (entry ∷ entries) = and_then (λ after. apply_entries after entries) (apply_entry tables entry)

-- the tables after a list of entries; one that is refused changes nothing
abbrev pub applied : Tables → List Entry → Tables
applied tables [] = tables
applied tables (entry ∷ entries) = applied (result_unwrap_or (apply_entry tables entry) tables) entries
