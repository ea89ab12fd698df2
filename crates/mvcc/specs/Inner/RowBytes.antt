-- What entries make of one row's bytes, told from the entries alone; `None` where the row is not there.
--
-- A row keeps the bytes with which it was last written. Behind them stand those of its table's blank row, which has in each added
-- column the value with which it was added.
use Rattle.std.specs.Prelude.{ℕ, ◌+◌, ◌≡◌, ◌≤◌, List, [], ◌∷◌, ◌++◌, length, take, drop, Option, None, Some, nat_le, if◌then◌else◌, IfSome}
use Rattle.std.specs.Prelude.{is_ok, true, ◌==◌}
use Rattle.std.specs.Prelude.{replicate}
use Rattle.std.specs.List.{AllByRecursion}
use Rattle.std.specs.Option.{option_map}
use Rattle.rows.specs.declared.commit.Commit.{Commit}
use Rattle.rows.specs.declared.entry.Entry.{Entry}
use Rattle.rows.specs.declared.entry.Entry.TheVariants.{Insert, Patch, Delete, AddColumn}
use Rattle.rows.specs.declared.kind.Kind.{Kind}
use Rattle.rows.specs.declared.value.Value.{Value}
use Rattle.rows.specs.Shape.{Shape, row_width, kinds_in, is_good}
use Rattle.rows.specs.Spelling.{IsColumnValue}
use Rattle.rows.specs.Values.{value_bytes, values_of, kind_of}
use Rattle.rows.specs.Tables.{opening, kinds_of, rows_of, row_at}
use Rattle.rows.specs.Commits.{apply_commits, tables_after}
use Rattle.mvcc.specs.Inner.Keys.{names}

-- a row's bytes, and behind them those of the blank row
abbrev pub wide : List ℕ → List ℕ → List ℕ
wide blank row = row ++ drop (length row) blank

-- the bytes that an insert leaves: its own, where the row was not there
abbrev pub inserted_bytes : List ℕ → Option (List ℕ) → Option (List ℕ)
inserted_bytes bytes None = Some bytes
inserted_bytes bytes (Some row) = Some row

-- a row's bytes with these at an offset; as they are, where these do not end within them
abbrev pub patched_bytes : ℕ → List ℕ → List ℕ → List ℕ
patched_bytes offset bytes row =
    if nat_le (offset + length bytes) (length row) then take offset row ++ bytes ++ drop (offset + length bytes) row else row

-- what an entry of a row makes of the row's bytes: a patch writes out what stands behind them
abbrev pub bytes_after_one : List ℕ → Entry → Option (List ℕ) → Option (List ℕ)
bytes_after_one blank (Insert table row bytes) was = inserted_bytes bytes was
bytes_after_one blank (Patch table row offset bytes) was = option_map (λ row. patched_bytes offset bytes (wide blank row)) was
bytes_after_one blank (Delete table row) was = None
bytes_after_one blank (AddColumn table default) was = was

-- what an entry makes of the bytes of this row: one that is not of this row alone leaves them
abbrev pub bytes_after_entry : ℕ → ℕ → List ℕ → Entry → Option (List ℕ) → Option (List ℕ)
bytes_after_entry table row blank entry was = if names table row entry then bytes_after_one blank entry was else was

-- the blank row of a table as it is opened
abbrev pub blank_in : Shape → ℕ → List ℕ
blank_in shape table = replicate (row_width (kinds_in shape table)) 0

-- what an entry makes of the blank row of a table
abbrev pub blank_after_one : ℕ → List ℕ → Entry → List ℕ
blank_after_one table blank (Insert at row bytes) = blank
blank_after_one table blank (Patch at row offset bytes) = blank
blank_after_one table blank (Delete at row) = blank
blank_after_one table blank (AddColumn at default) = if at == table then blank ++ value_bytes default else blank

abbrev pub blank_after : ℕ → List ℕ → List Entry → List ℕ
blank_after table blank [] = blank
blank_after table blank (entry ∷ entries) = blank_after table (blank_after_one table blank entry) entries

abbrev pub blank_after_commits : ℕ → List ℕ → List Commit → List ℕ
blank_after_commits table blank [] = blank
blank_after_commits table blank (commit ∷ commits) = blank_after_commits table (blank_after table blank commit.entries) commits

-- a row's bytes after entries that are defined one after the other
abbrev pub bytes_after : ℕ → ℕ → List ℕ → List Entry → Option (List ℕ) → Option (List ℕ)
bytes_after table row blank [] was = was
bytes_after table row blank (entry ∷ entries) was =
    bytes_after table row (blank_after_one table blank entry) entries (bytes_after_entry table row blank entry was)

-- a row's bytes after the commits of a list
abbrev pub bytes_after_commits : ℕ → ℕ → List ℕ → List Commit → Option (List ℕ) → Option (List ℕ)
bytes_after_commits table row blank [] was = was
bytes_after_commits table row blank (commit ∷ commits) was =
    bytes_after_commits table row (blank_after table blank commit.entries) commits (bytes_after table row blank commit.entries was)

-- the value of an added column is one that a column can have, where a column can be of its kind
abbrev pub HasValue : Entry → Type 0
HasValue (Insert table row bytes) = Unit {0}
HasValue (Patch table row offset bytes) = Unit {0}
HasValue (Delete table row) = Unit {0}
HasValue (AddColumn table default) = is_good (kind_of default) ≡ true → IsColumnValue default

-- and so are those of all entries of commits
abbrev pub HaveValues : List Commit → Type 0
HaveValues commits = AllByRecursion (λ commit. AllByRecursion HasValue commit.entries) commits

-- values that are those of bytes with the blank row's behind them; the blank row is as wide as these columns, and they no wider
pub record IsTold (columns : List Kind) (blank : List ℕ) (values : Option (List Value)) (bytes : Option (List ℕ)) : Type 0 where
  pub told : values ≡ option_map (λ row. values_of columns (wide blank row)) bytes
  pub narrow : IfSome bytes (λ row. length row ≤ length blank)
  pub blank_wide : length blank ≡ row_width columns

-- the values of a row at a version are those of its bytes after the commits up to it
abbrev pub RowsHaveBytes : Type 0
RowsHaveBytes =
    (shape : Shape) (commits : List Commit) (version table row : ℕ) → is_ok (apply_commits (opening shape) commits) ≡ true
    → HaveValues commits
    → IsTold (kinds_of (tables_after shape commits version) table)
    (blank_after_commits table (blank_in shape table) (take version commits))
    (row_at (rows_of (tables_after shape commits version) table) row)
    (bytes_after_commits table row (blank_in shape table) (take version commits) None)
