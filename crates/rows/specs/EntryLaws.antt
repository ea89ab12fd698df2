-- Laws of one entry: what it needs, and what it makes of the tables, of each row, and of the rows of one table.
use Rattle.std.specs.Prelude.{◌≡◌, ◌≢◌, ℕ, ◌<◌, List, length, true, Some, Ok, ◌==◌, slice_set, if◌then◌else◌}
use Rattle.rows.specs.declared.entry.Entry.{Entry}
use Rattle.rows.specs.declared.value.Value.{Value}
use Rattle.rows.specs.Entries.{table_of}
use Rattle.rows.specs.RowAfter.{row_after_entry}
use Rattle.rows.specs.Tables.{Rows, Table, Tables, shape_in, rows_of, row_at, with_row, is_fit, stands, made, apply_entry}

-- an entry that is applied fits, its row stands as it needs it, and it makes what comes after it
abbrev pub EntryIsMade : Type 0
EntryIsMade =
    (tables after : Tables) (entry : Entry) → apply_entry tables entry ≡ Ok after
    → (is_fit tables entry ≡ true) × (stands tables entry ≡ true) × (made tables entry ≡ after)

-- an entry that fits is of one of the tables
abbrev pub FitsWithin : Type 0
FitsWithin = (tables : Tables) (entry : Entry) → is_fit tables entry ≡ true → table_of entry < length tables

-- after an entry each row has the values that the entry leaves of those it had
abbrev pub EntryLeavesRows : Type 0
EntryLeavesRows =
    (tables after : Tables) (entry : Entry) (table row : ℕ) → apply_entry tables entry ≡ Ok after
    → row_at (rows_of after table) row ≡ row_after_entry (shape_in tables) table row entry (row_at (rows_of tables table) row)

-- once a row was put in, it has these values, and any other those that it had
abbrev pub RowIsPut : Type 0
RowIsPut =
    (rows : Rows) (row : ℕ) (values : List Value) (other : ℕ)
    → row_at (with_row rows row values) other ≡ (if row == other then Some values else row_at rows other)

-- the rows of a table that was replaced, and of any other
abbrev pub ReplacedTable : Type 0
ReplacedTable = (tables : Tables) (table : ℕ) (new : Table) → table < length tables → rows_of (slice_set tables table new) table ≡ new.rows

abbrev pub OtherTables : Type 0
OtherTables =
    (tables : Tables) (table other : ℕ) (new : Table) → other ≢ table → rows_of (slice_set tables table new) other ≡ rows_of tables other
