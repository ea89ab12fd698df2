-- The rows of a table as a scan looks at them: piece by piece.
use Rattle.std.specs.Prelude.{◌≡◌, ℕ, zero, suc, ◌<◌, ◌≤◌, [], ◌++◌, length, take, IfSome}
use Rattle.rows.specs.Tables.{Rows, Tables, rows_of}
use Rattle.store.specs.Changes.{id_in}
use Rattle.store.specs.Lent.{rows_in}
use Rattle.queries.specs.declared.plan.Plan.{Plan}
use Rattle.plans.specs.Inner.Kept.{GroupList, AreKept}

-- the rows of the pieces before one, one piece after the other
abbrev pub rows_of_pieces : Rows → ℕ → ℕ → Rows
rows_of_pieces rows pieces zero = []
rows_of_pieces rows pieces (suc piece) = rows_of_pieces rows pieces piece ++ rows_in rows pieces piece

-- the same, and of that piece those before an index
abbrev pub rows_scanned : Rows → ℕ → ℕ → ℕ → Rows
rows_scanned rows pieces piece from = rows_of_pieces rows pieces piece ++ take from (rows_in rows pieces piece)

-- the identifiers before an index are at most this
abbrev pub AreAtMost : Rows → ℕ → ℕ → Type 0
AreAtMost rows from last = (j : ℕ) → j < from → IfSome (id_in rows j) (λ before. before ≤ last)

-- the pieces before one were scanned
pub record PiecesAreScanned (tables : Tables) (plan : Plan) (pieces piece count : ℕ) (groups : GroupList) : Type 0 where
  pub count_is : count ≡ length (rows_of_pieces (rows_of tables plan.table) pieces piece)
  pub kept : AreKept tables plan (rows_of_pieces (rows_of tables plan.table) pieces piece) count groups
