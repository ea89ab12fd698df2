-- The rows of a version as they are found in chains, and the image of one table.
use Rattle.std.specs.Prelude.{ℕ, List, [], ◌∷◌, ◌++◌, map, drop, length, Option, None, Some, ◌==◌, slice_get}
use Rattle.std.specs.Prelude.{Bool, ◌&&◌, nat_le, nat_lt, if◌then◌else◌}
use Rattle.std.specs.List.{filter}
use Rattle.std.specs.Option.{option_map_or}
use Rattle.rows.specs.declared.entry.Entry.{Entry}
use Rattle.rows.specs.declared.entry.Entry.TheVariants.{Insert}
use Rattle.rows.specs.declared.kind.Kind.{Kind}
use Rattle.rows.specs.Image.{columns_image, rows_image}
use Rattle.rows.specs.Shape.{Shape, kinds_in}
use Rattle.rows.specs.Tables.{Table, Tables}
use Rattle.mvcc.specs.Inner.Chains.{Chains, bytes_at}
use Rattle.mvcc.specs.Inner.RowBytes.{wide}

-- rows by identifier, each with its bytes
abbrev pub Found : Type 0
Found = List (ℕ × List ℕ)

-- a row that is there, with the bytes of a blank row behind its own
abbrev pub found : List ℕ → ℕ → Option (List ℕ) → Found
found blank row None = []
found blank row (Some bytes) = (row, wide blank bytes) ∷ []

-- the rows of these chains that are there at a version
abbrev pub found_at : ℕ → List ℕ → Chains → Found
found_at version blank [] = []
found_at version blank (chain ∷ chains) = found blank chain.0.1 (bytes_at version chain.1) ++ found_at version blank chains

-- the chains of one table's rows
abbrev pub chains_of : ℕ → Chains → Chains
chains_of table chains = filter (λ chain. chain.0.0 == table) chains

-- an insert for each of these rows
abbrev pub inserts_of : ℕ → Found → List Entry
inserts_of table found = map (λ row. Insert table (record { 0 = row.0 }) row.1) found

-- whether a row is from that one on, and before the next one, if there is one
abbrev pub is_within : ℕ → Option ℕ → ℕ → Bool
is_within from None row = nat_le from row
is_within from (Some next) row = nat_le from row && nat_lt row next

-- the chains of those rows of one table
abbrev pub chains_within : ℕ → ℕ → Option ℕ → Chains → Chains
chains_within table from next chains = filter (λ chain. is_within from next chain.0.1) (chains_of table chains)

-- the inserts of those rows of the table of that number, and from row 0 on its added columns before them
abbrev pub table_between : (number from : ℕ) → Option ℕ → List Kind → Table → List Entry
table_between number from next opened table =
    (if from == 0 then columns_image number (drop (length opened) table.kinds) else [])
    ++ rows_image number (filter (λ row. is_within from next row.0) table.rows)

-- the same of one of these tables, which were opened in that shape; nothing if there is no table of that number
abbrev pub table_part : Shape → Tables → (table from : ℕ) → Option ℕ → List Entry
table_part shape tables table from next = option_map_or (table_between table from next (kinds_in shape table)) (slice_get tables table) []
