-- What entries make of one row's values, derived from the entries alone; `None` if the row is not there.
use Rattle.std.specs.Prelude.{ℕ, List, [], ◌∷◌, ◌++◌, Option, None, Some, if◌then◌else◌, is_ok}
use Rattle.std.specs.Option.{option_map}
use Rattle.rows.specs.declared.commit.Commit.{Commit}
use Rattle.rows.specs.declared.entry.Entry.{Entry}
use Rattle.rows.specs.declared.entry.Entry.TheVariants.{Insert, Patch, Delete, AddColumn}
use Rattle.rows.specs.declared.kind.Kind.{Kind}
use Rattle.rows.specs.declared.value.Value.{Value}
use Rattle.rows.specs.Shape.{Shape, kinds_in}
use Rattle.rows.specs.Values.{values_of}
use Rattle.rows.specs.Entries.{fitting, shape_after_one, shape_after}
use Rattle.rows.specs.Tables.{patched_row}
use Rattle.rows.specs.Commits.{is_of}

-- the values that an insert leaves: its own, if the row was not there
abbrev pub inserted_row : List Kind → List ℕ → Option (List Value) → Option (List Value)
inserted_row kinds bytes None = Some (values_of kinds bytes)
inserted_row kinds bytes (Some values) = Some values

-- what an entry of a row, in a table with columns of these kinds, makes of the row's values
abbrev pub row_after_one : List Kind → Entry → Option (List Value) → Option (List Value)
row_after_one kinds (Insert table row bytes) was = inserted_row kinds bytes was
row_after_one kinds (Patch table row offset bytes) was = option_map (patched_row kinds offset bytes) was
row_after_one kinds (Delete table row) was = None
row_after_one kinds (AddColumn table default) was = option_map (λ values. values ++ default ∷ []) was

-- what an entry makes of the values of this row: one of another row leaves them
abbrev pub row_after_entry : Shape → ℕ → ℕ → Entry → Option (List Value) → Option (List Value)
row_after_entry shape table row entry was = if is_of table row entry then row_after_one (kinds_in shape table) entry was else was

-- a row's values after entries that are defined one after the other
abbrev pub row_after : Shape → ℕ → ℕ → List Entry → Option (List Value) → Option (List Value)
row_after shape table row [] was = was
row_after shape table row (entry ∷ entries) was =
    row_after (shape_after_one shape entry) table row entries (row_after_entry shape table row entry was)

-- a row's values after the commits of a list
abbrev pub row_after_commits : Shape → ℕ → ℕ → List Commit → Option (List Value) → Option (List Value)
row_after_commits shape table row [] was = was
row_after_commits shape table row (commit ∷ commits) was =
    row_after_commits (shape_after shape commit.entries) table row commits (row_after shape table row commit.entries was)

-- a row's values after entries; one that does not fit changes nothing
abbrev pub row_after_fit : Shape → ℕ → ℕ → List Entry → Option (List Value) → Option (List Value)
row_after_fit shape table row [] was = was
row_after_fit shape table row (entry ∷ entries) was =
    row_after_fit (shape_after_one shape entry) table row entries
    (if is_ok (fitting shape entry) then row_after_entry shape table row entry was else was)
