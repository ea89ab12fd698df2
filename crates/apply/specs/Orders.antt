-- Rows in rising identifier.
use Rattle.std.specs.Prelude.{ℕ, ◌<◌, [], ◌∷◌, nat_lt}
use Rattle.std.specs.List.{prefix_len}
use Rattle.std.specs.Map.{keys_of}
use Rattle.rows.specs.Tables.{Rows}

-- each row has an identifier above this one
abbrev pub AllOver : ℕ → Rows → Type 0
AllOver low [] = Unit {0}
AllOver low (row ∷ rows) = (low < row.0) × AllOver low rows

-- each row has an identifier below this one
abbrev pub AllUnder : ℕ → Rows → Type 0
AllUnder high [] = Unit {0}
AllUnder high (row ∷ rows) = (row.0 < high) × AllUnder high rows

-- the identifiers rise
abbrev pub Rising : Rows → Type 0
Rising [] = Unit {0}
Rising (row ∷ rows) = AllOver row.0 rows × Rising rows

-- how many rows stand before a row: its place, if the identifiers rise
abbrev pub place_in : Rows → ℕ → ℕ
place_in rows row = prefix_len (λ id. nat_lt id row) (keys_of rows)
