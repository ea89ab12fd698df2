-- The keys of maps of rows: a table, and a row's identifier; and which entries are of one row alone.
use Rattle.std.specs.Prelude.{◌≡◌, ℕ, Bool, true, false, ◌&&◌, ◌==◌, List, Option, None, Some}
use Rattle.std.specs.List.{AllByRecursion}
use Rattle.std.specs.Ordering.{nat_cmp, ordering_then}
use Rattle.std.specs.declared.cmp.Ordering.{Ordering}
use Rattle.rows.specs.declared.entry.Entry.{Entry}
use Rattle.rows.specs.declared.entry.Entry.TheVariants.{Insert, Patch, Delete, AddColumn}
use Rattle.rows.specs.declared.row_id.RowId.{RowId}

-- whether a key is that of the row
abbrev pub is_key_of : ℕ → ℕ → ℕ × ℕ → Bool
is_key_of table row key = (key.0 == table) && (key.1 == row)

-- how a map of rows compares its keys
abbrev pub key_cmp : ℕ × ℕ → ℕ × ℕ → Ordering
key_cmp x y = ordering_then (nat_cmp x.0 y.0) (nat_cmp x.1 y.1)

-- whether an entry is of that row alone: one that adds a column is of none alone
abbrev pub names : ℕ → ℕ → Entry → Bool
names table row (Insert at id bytes) = (at == table) && (id.0 == row)
names table row (Patch at id offset bytes) = (at == table) && (id.0 == row)
names table row (Delete at id) = (at == table) && (id.0 == row)
names table row (AddColumn at default) = false

-- whether an entry adds a column
abbrev pub adds_column : Entry → Bool
adds_column (Insert table row bytes) = false
adds_column (Patch table row offset bytes) = false
adds_column (Delete table row) = false
adds_column (AddColumn table default) = true

-- each of these entries is of one row
abbrev pub AreOfRows : List Entry → Type 0
AreOfRows entries = AllByRecursion (λ entry. adds_column entry ≡ false) entries

-- what is told of an entry's row; nothing needs to be told of one that is of no row alone
abbrev pub of_row : Option RowId → (ℕ → Bool) → Bool
of_row None there = true
of_row (Some row) there = there row.0
