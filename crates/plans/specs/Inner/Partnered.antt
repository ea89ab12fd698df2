-- The rows that a block's rows are joined with, and the columns that are filled of them.
use Rattle.std.specs.Prelude.{◌≡◌, ℕ, pos, ◌<◌, ◌≤◌, List, [], ◌∷◌, ◌++◌, map, length, true, Option, None, Some, IsSome}
use Rattle.std.specs.Prelude.{slice_get, slice_index_or}
use Rattle.std.specs.List.{filter_map}
use Rattle.std.specs.Option.{option_and_then, unwrap_or}
use Rattle.rows.specs.declared.value.Value.{Value}
use Rattle.rows.specs.declared.value.Value.TheVariants.{Int}
use Rattle.rows.specs.Tables.{Rows, Tables, kinds_of, rows_of, row_at}
use Rattle.rows.specs.Values.{are_of_kinds}
use Rattle.store.specs.Changes.{column_of}
use Rattle.plans.specs.declared.block.Block.{Block}
use Rattle.plans.specs.declared.cells.Cells.{Cells}
use Rattle.plans.specs.declared.filled.Filled.{Filled}
use Rattle.queries.specs.declared.column.Column.{Column}
use Rattle.queries.specs.declared.column.Column.TheVariants.{Own, Joined}
use Rattle.plans.specs.declared.partners.Partners.{Partners}
use Rattle.queries.specs.declared.plan.Join.{Join}
use Rattle.queries.specs.Answers.{JoinedRow, id_of, joined_with, values_in}
use Rattle.plans.specs.Inner.BlockRows.{rows_of_block, own_rows}
use Rattle.plans.specs.Inner.Cells.{values_at}
use Rattle.plans.specs.Inner.Picked.{ArePlaces}

-- the values of the row of a table that a value names
abbrev pub row_named : Tables → ℕ → Value → Option (List Value)
row_named tables table value = option_and_then (row_at (rows_of tables table)) (id_of value)

-- the row at a position
abbrev pub row_in : Rows → ℕ → List Value
row_in rows position = (slice_index_or rows position (0, [])).1

-- what stands at a place is a row of the kinds of its table
abbrev pub IsOfTable : Tables → ℕ → Option (List Value) → Type 0
IsOfTable tables table None = ⊥
IsOfTable tables table (Some values) = are_of_kinds values (kinds_of tables table) ≡ true

module _ {P : Type 0} where
  -- the rows at these positions, each joined with the row at the place beside it
  abbrev pub paired : (P → Option (List Value)) → Rows → List ℕ → List P → List JoinedRow
  paired values rows [] places = []
  paired values rows (position ∷ positions) [] = []
  paired values rows (position ∷ positions) (place ∷ places) =
      record { own = row_in rows position; joined = unwrap_or (values place) [] } ∷ paired values rows positions places

  -- the rows of a block that have a partner, each joined with it
  abbrev pub partnered : (ℕ → P → Option (List Value)) → Rows → Partners P → List JoinedRow
  partnered values rows partners = paired (values partners.table) rows partners.positions.items partners.places.items

  -- each position is one of the block's rows, and at the place beside it there is a row
  pub record IsJoining (tables : Tables) (values : ℕ → P → Option (List Value)) (block : Block) (partners : Partners P) : Type 0 where
    pub sizes : length partners.places.items ≡ length partners.positions.items
    pub few : length partners.positions.items ≤ length block.ids.now
    pub within : ArePlaces (length block.ids.now) partners.positions.items
    pub there : (k : ℕ) (d : P) → k < length partners.places.items
        → IsOfTable tables partners.table (values partners.table (slice_index_or partners.places.items k d))

  -- they are the rows that a join makes of the block's rows
  abbrev pub AreJoined : Tables → (ℕ → P → Option (List Value)) → Block → Join → Partners P → Type 0
  AreJoined tables values block join partners =
      partnered values (rows_of_block tables block) partners
      ≡ filter_map (λ row. joined_with tables (Some join) row.1) (rows_of_block tables block)

  -- the rows of a block: each alone, or those that have a partner, if partners are given
  abbrev pub joined_rows : Tables → (ℕ → P → Option (List Value)) → Block → Option (Partners P) → List JoinedRow
  joined_rows tables values block None = own_rows tables block
  joined_rows tables values block (Some partners) = partnered values (rows_of_block tables block) partners

  -- the partners are there, if partners are given
  abbrev pub AreSound : Tables → (ℕ → P → Option (List Value)) → Block → Option (Partners P) → Type 0
  AreSound tables values block None = Unit {0}
  AreSound tables values block (Some partners) = IsJoining tables values block partners

  -- the number of the table that is joined, if one is
  abbrev pub joined_table : Option (Partners P) → Option ℕ
  joined_table None = None
  joined_table (Some partners) = Some partners.table

  -- each place has a row with this column
  abbrev pub HaveColumn : (P → Option (List Value)) → List P → ℕ → Type 0
  HaveColumn values places column = (k : ℕ) (d : P) → k < length places → IsSome (column_of (values (slice_index_or places k d)) column)

  -- the value of a column of the row at each place
  abbrev pub column_at : (P → Option (List Value)) → List P → ℕ → List Value
  column_at values places column = map (λ place. unwrap_or (column_of (values place) column) (Int (pos 0))) places

-- the column by which a table's rows are joined is there, if they are joined
abbrev pub HasLink : Tables → ℕ → Option Join → Type 0
HasLink tables table None = Unit {0}
HasLink tables table (Some join) = IsSome (slice_get (kinds_of tables table) join.column)

-- a table, or the one that is joined, has this column
abbrev pub HasKind : Tables → ℕ → Option ℕ → Column → Type 0
HasKind tables table other (Own column) = IsSome (slice_get (kinds_of tables table) column)
HasKind tables table None (Joined column) = ⊥
HasKind tables table (Some other) (Joined column) = IsSome (slice_get (kinds_of tables other) column)

abbrev pub HaveKinds : Tables → ℕ → Option ℕ → List Column → Type 0
HaveKinds tables table other columns =
    (k : ℕ) (d : Column) → k < length columns → HasKind tables table other (slice_index_or columns k d)

-- ---- columns that are filled

-- each has the values of its column of these rows
pub record AreFilled (rows : List JoinedRow) (filled : Filled) : Type 0 where
  pub sizes : length filled.cells.items ≡ length filled.columns.items
  pub each : (k : ℕ) (d : Column) → k < length filled.columns.items
      → values_at filled.cells.items k ≡ values_in (slice_index_or filled.columns.items k d) rows

-- columns behind those that were there
abbrev pub Grows : List Cells → List Cells → Type 0
Grows before after = (more : List Cells) × (after ≡ before ++ more)

-- the column at a place has these values
abbrev pub IsColumnAt : List Cells → ℕ → List Value → Type 0
IsColumnAt cells place values = (place < length cells) × (values_at cells place ≡ values)
