-- Laws of the order of a table's rows, and of the columns that tables began with.
use Rattle.std.specs.Prelude.{◌≡◌, ℕ, List, Some, Ok, slice_get}
use Rattle.rows.specs.declared.commit.Commit.{Commit}
use Rattle.rows.specs.declared.entry.Entry.{Entry}
use Rattle.rows.specs.declared.value.Value.{Value}
use Rattle.rows.specs.Commits.{apply_commits}
use Rattle.rows.specs.Shape.{Shape}
use Rattle.rows.specs.Tables.{Rows, Tables, row_at, opening, apply_entry}
use Rattle.store.specs.Changes.{id_in, IsAboveAllBefore, BeganWith}

-- the row at an index of a table's order is the one that its identifier finds, if those before it have lower ones
abbrev pub IndexedRowIsFound : Type 0
IndexedRowIsFound =
    (rows : Rows) (i id : ℕ) → Some id ≡ id_in rows i → IsAboveAllBefore rows i id
    → (values : List Value) × (slice_get rows i ≡ Some (id, values)) × (row_at rows id ≡ Some values)

-- tables began with the kinds with which they are opened
abbrev pub OpeningBegins : Type 0
OpeningBegins = (shape : Shape) → BeganWith shape (opening shape)

-- an entry leaves the columns that tables began with
abbrev pub EntryKeepsFirst : Type 0
EntryKeepsFirst =
    (shape : Shape) (tables after : Tables) (entry : Entry) → BeganWith shape tables → apply_entry tables entry ≡ Ok after
    → BeganWith shape after

-- and so do commits
abbrev pub CommitsKeepFirst : Type 0
CommitsKeepFirst =
    (shape : Shape) (tables after : Tables) (commits : List Commit) → BeganWith shape tables → apply_commits tables commits ≡ Ok after
    → BeganWith shape after
