-- The shape of a database: for each table, by its number, the kinds of its columns.
use Rattle.std.specs.Prelude.{◌≡◌, ℕ, ◌<◌, ◌≤◌, ◌+◌, ◌-◌, List, [], ◌∷◌, length, map, Bool, true, Option, None, Some, nat_lt, ◌==◌, ◌&&◌}
use Rattle.std.specs.Prelude.{not, if◌then◌else◌, slice_get}
use Rattle.std.specs.List.{sum_by, list_all, AllByRecursion}
use Rattle.std.specs.Option.{unwrap_or}
use Rattle.std.specs.Borrow.{Bor}
use Rattle.rows.specs.declared.kind.Kind.{Kind}
use Rattle.rows.specs.declared.kind.Kind.TheVariants.{Int, Octets}
use Rattle.rows.specs.Limits.{tables_max, columns_max, row_width_max, octets_max}

-- for each table the kinds of its columns
abbrev pub Shape : Type 0
Shape = List (List Kind)

-- a schema's table that is handed in: its name's bytes, and its columns' kinds
abbrev pub given : Bor (List ℕ) × Bor (List Kind) → List ℕ × List Kind
given table = (table.0.now, table.1.now)

-- a schema without its names
abbrev pub shape_of : List (List ℕ × List Kind) → Shape
shape_of schema = map (λ table. table.1) schema

-- the kinds of a table's columns; none if there is no table of that number
abbrev pub kinds_in : Shape → ℕ → List Kind
kinds_in shape table = unwrap_or (slice_get shape table) []

-- how many bytes a value of this kind takes
abbrev pub width_of : Kind → ℕ
width_of Int = 8
width_of (Octets width) = width

-- whether a column may be of this kind: octets are 1 to 64 bytes
abbrev pub is_good : Kind → Bool
is_good Int = true
is_good (Octets width) = not (width == 0) && not (nat_lt octets_max width)

-- how many bytes a row of these columns takes
abbrev pub row_width : List Kind → ℕ
row_width kinds = sum_by width_of kinds

-- the column of these, which stand after `before` others, that begins at this offset from the first of them and has this size:
-- its number and its kind; none if these are not exactly one column's bytes
abbrev pub column_from : ℕ → List Kind → ℕ → ℕ → Option (ℕ × Kind)
column_from before [] offset size = None
column_from before (kind ∷ kinds) offset size =
    if offset == 0 && size == width_of kind then Some (before, kind) else
    if nat_lt offset (width_of kind) then None else column_from (before + 1) kinds (offset - width_of kind) size

-- the column whose bytes stand at an offset of a row
abbrev pub column_at : List Kind → ℕ → ℕ → Option (ℕ × Kind)
column_at kinds offset size = column_from 0 kinds offset size

-- kinds that a table's columns may have: 1 to 16 columns, each of a kind that a column may have, and at most 512
-- bytes a row
pub record AreColumns (kinds : List Kind) : Type 0 where
  pub some : 0 < length kinds
  pub few : length kinds ≤ columns_max
  pub good : list_all is_good kinds ≡ true
  pub narrow : row_width kinds ≤ row_width_max

-- the tables that a schema may have: 1 to 16, each of columns that a table may have
pub record AreTables (shape : Shape) : Type 0 where
  pub some : 0 < length shape
  pub few : length shape ≤ tables_max
  pub each : AllByRecursion AreColumns shape
