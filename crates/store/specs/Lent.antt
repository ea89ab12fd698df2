-- What a store lends of a table at once: rows of a piece, and the values of one of their columns.
use Rattle.std.specs.Prelude.{◌≡◌, ℕ, zero, suc, ◌*◌, ◌%◌, ◌==◌, List, [], ◌∷◌, length, map, take, drop, Option, Some, slice_get}
use Rattle.std.specs.List.{filter}
use Rattle.rows.specs.declared.value.Value.{Value}
use Rattle.rows.specs.declared.value.Value.TheVariants as values
use Rattle.rows.specs.Tables.{Rows}
use Rattle.store.specs.declared.lent.Lent.{Lent}
use Rattle.store.specs.declared.lent.Lent.TheVariants.{Numbers, Octets}

-- the rows of one piece of so many: those whose identifier leaves this remainder
abbrev pub rows_in : Rows → ℕ → ℕ → Rows
rows_in rows pieces piece = filter (λ row. row.0 % pieces == piece) rows

-- some rows, from an index on
abbrev pub rows_from : Rows → ℕ → ℕ → Rows
rows_from rows from count = take count (drop from rows)

-- the value of a column of each row
abbrev pub column_in : Rows → ℕ → List (Option Value)
column_in rows column = map (λ row. slice_get row.1 column) rows

-- so many values of one width, side by side
abbrev pub octets_in : ℕ → ℕ → List ℕ → List Value
octets_in zero width bytes = []
octets_in (suc rows) width bytes = values.Octets (take width bytes) ∷ octets_in rows width (drop width bytes)

-- what is lent are these values, each of them there
abbrev pub AreLent : List (Option Value) → Lent → Type 0
AreLent cells (Numbers numbers) = map (λ number. Some (values.Int number)) numbers.now ≡ cells
AreLent cells (Octets width bytes) =
    (length bytes.now ≡ length cells * width) × (map Some (octets_in (length cells) width bytes.now) ≡ cells)
