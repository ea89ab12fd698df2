-- A store of columns as its callers see it: the tables of each partition, and those of all together.
use Rattle.std.specs.Prelude.{ℕ, List, [], ◌∷◌, Bool, Option, slice_get, slice_index_or}
use Rattle.std.specs.Option.{option_map}
use Rattle.rows.specs.declared.value.Value.{Value}
use Rattle.rows.specs.Shape.{Shape}
use Rattle.rows.specs.Tables.{Rows, Tables, rows_of, with_row}
use Rattle.apply.specs.declared.spot.Spot.{Spot}

-- rows, put in among others
abbrev pub gathered : Rows → Rows → Rows
gathered [] others = others
gathered (row ∷ rows) others = with_row (gathered rows others) row.0 row.1

-- the tables of one partition, with the rows of as many others put in
abbrev pub both : Tables → Tables → Tables
both [] others = []
both (one ∷ these) [] = record { kinds = one.kinds; rows = gathered one.rows [] } ∷ both these []
both (one ∷ these) (other ∷ others) = record { kinds = one.kinds; rows = gathered one.rows other.rows } ∷ both these others

-- the tables of all partitions
abbrev pub tables_in : List Tables → Tables
tables_in [] = []
tables_in (partition ∷ partitions) = both partition (tables_in partitions)

-- the values of the row that stands at a position of a table in a partition
abbrev pub values_in : List Tables → ℕ → Spot → Option (List Value)
values_in partitions table spot =
    option_map (λ row. row.1) (slice_get (rows_of (slice_index_or partitions spot.partition []) table) spot.position)

-- a store of columns as its callers see it: the tables of each partition, whether it is whole, and what it was made with
pub record ColumnState : Type 0 where
  -- the tables of each partition
  pub partitions : List Tables
  -- whether they stand as the store's changes made them; once it is not, it never is again
  pub whole : Bool
  -- the kinds of each table's columns when the store was made
  pub base_shape : Shape
