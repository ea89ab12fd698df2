-- What is computed of a table's pieces, and of all of them.
use Rattle.std.specs.Prelude.{◌≡◌, ℕ, ◌<◌, List, length, Option, Result, IfOk, IfSome, slice_index_or}
use Rattle.std.specs.declared.alloc.AllocError.{AllocError}
use Rattle.rows.specs.Tables.{Tables, rows_of}
use Rattle.store.specs.Lent.{rows_in}
use Rattle.plans.specs.declared.piecewise.PieceGroups.{PieceGroups}
use Rattle.queries.specs.declared.plan.Plan.{Plan}
use Rattle.plans.specs.Inner.Kept.{GroupList, AreWithin}
use Rattle.plans.specs.Inner.Ranges.{AreMerged}
use Rattle.plans.specs.Inner.Scans.{AreKeptFor}

-- what is found are the groups of the piece's rows
pub record IsOfPiece (tables : Tables) (plans : List Plan) (table pieces piece : ℕ) (found : PieceGroups) : Type 0 where
  pub sizes : length found.groups.items ≡ length plans
  pub rows : found.rows ≡ length (rows_in (rows_of tables table) pieces piece)
  pub kept : AreKeptFor tables plans table (rows_in (rows_of tables table) pieces piece) found.rows found.groups.items

-- of each piece there is this, if memory lasted and its rows are lent
abbrev pub ArePieces : Tables → List Plan → ℕ → ℕ → List (Result (Option PieceGroups) AllocError) → Type 0
ArePieces tables plans table pieces parts =
    (piece : ℕ) (d : Result (Option PieceGroups) AllocError) → piece < length parts
    → IfOk (slice_index_or parts piece d) (λ found. IfSome found (IsOfPiece tables plans table pieces piece))

-- the numbers of the plans on a table are those of so many rows
abbrev pub AreWithinFor : List Plan → ℕ → ℕ → List GroupList → Type 0
AreWithinFor plans table rows groups =
    (k : ℕ) (d : Plan) (e : GroupList) → k < length plans → (slice_index_or plans k d).table ≡ table
    → AreWithin rows (slice_index_or groups k e)

-- a plan on this table has the groups of both, with the numbers of so many rows; what is kept of other plans stays
pub record MergesOn (plan : Plan) (table rows : ℕ) (first second new : GroupList) : Type 0 where
  pub merged : plan.table ≡ table → AreMerged plan.aggregates first second new
  pub within : plan.table ≡ table → AreWithin rows new
  pub other : (plan.table ≡ table → ⊥) → new ≡ first
