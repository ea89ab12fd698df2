-- The rows of a block.
use Rattle.std.specs.Prelude.{◌≡◌, ℕ, ◌+◌, ◌<◌, ◌^◌, List, [], map, length, true, Some, IsSome, slice_get, slice_index_or}
use Rattle.std.specs.Option.{unwrap_or}
use Rattle.rows.specs.declared.value.Value.{Value}
use Rattle.rows.specs.Tables.{Rows, Tables, rows_of, row_at}
use Rattle.store.specs.Lent.{rows_in, rows_from}
use Rattle.plans.specs.declared.block.Block.{Block}
use Rattle.queries.specs.Answers.{JoinedRow}

-- the values of the row of an identifier
abbrev pub values_by : Rows → ℕ → List Value
values_by rows id = unwrap_or (row_at rows id) []

-- a block's rows: those of its identifiers
abbrev pub rows_of_block : Tables → Block → Rows
rows_of_block tables block = map (λ id. (id, values_by (rows_of tables block.table) id)) block.ids.now

-- its rows are there; where it lends, they are so many of a piece's, from an index on
pub record IsBlock (tables : Tables) (block : Block) : Type 0 where
  pub few : length block.ids.now < 2 ^ 32
  pub there : (k : ℕ) (d : ℕ) → k < length block.ids.now → IsSome (row_at (rows_of tables block.table) (slice_index_or block.ids.now k d))
  pub some : block.lends ≡ true → 0 < block.pieces
  pub lent : block.lends ≡ true
      → rows_from (rows_in (rows_of tables block.table) block.pieces block.piece) block.from (length block.ids.now)
      ≡ rows_of_block tables block

-- a row that is joined with none
abbrev pub alone : ℕ × List Value → JoinedRow
alone row = record { own = row.1; joined = [] }

-- its rows, each joined with none
abbrev pub own_rows : Tables → Block → List JoinedRow
own_rows tables block = map alone (rows_of_block tables block)

-- a block of the rows of a piece from an index on, that may be lent
abbrev pub IsFrom : Block → ℕ → ℕ → ℕ → ℕ → Type 0
IsFrom block table pieces piece from =
    (block.table ≡ table) × (block.lends ≡ true) × (block.pieces ≡ pieces) × (block.piece ≡ piece) × (block.from ≡ from)

-- so many of these identifiers are those of the rows of a piece from an index on, and find them among all rows
abbrev pub AreFound : Rows → Rows → ℕ → List ℕ → ℕ → Type 0
AreFound rows here from ids count =
    (j : ℕ) → j < count
    → (slice_get here (from + j) ≡ Some (slice_index_or ids j 0, values_by rows (slice_index_or ids j 0)))
    × IsSome (row_at rows (slice_index_or ids j 0))
