-- Which rows are present, and what entries leave of them: all that decides whether a commit is legal.
use Rattle.std.specs.Prelude.{◌≡◌, ℕ, List, Bool, true, false, Result, Ok, IsOk, ◌==◌, [], slice_get}
use Rattle.std.specs.List.{list_any}
use Rattle.std.specs.Option.{unwrap_or}
use Rattle.rows.specs.Shape.{Shape}
use Rattle.rows.specs.Tables.{Tables, Refusal, shape_in, is_row_at}

-- for each table the identifiers of rows
abbrev pub TableIds : Type 0
TableIds = List (List ℕ)

-- the kinds of each table's columns, and the rows that are present
pub record PresenceState : Type 0 where
  pub kinds : Shape
  pub rows : TableIds

-- whether an identifier is among these
abbrev pub has_id : List ℕ → ℕ → Bool
has_id ids id = list_any (λ other. other == id) ids

-- whether a row of a table is among these
abbrev pub has_row : TableIds → ℕ → ℕ → Bool
has_row rows table row = has_id (unwrap_or (slice_get rows table) []) row

-- the kinds and the rows of these tables
pub record IsPresenceOf (tables : Tables) (present : PresenceState) : Type 0 where
  pub kinds : present.kinds ≡ shape_in tables
  pub rows : (table row : ℕ) → has_row present.rows table row ≡ is_row_at tables table row

-- whether a change is defined; if it is, the rows that are present are those after it
abbrev pub IsApplied : Bool → Result Tables Refusal → PresenceState → Type 0
IsApplied true change present = (after : Tables) × (change ≡ Ok after) × IsPresenceOf after present
IsApplied false change present = ¬ IsOk change
