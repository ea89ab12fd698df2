-- A plain store, as its callers see it.
use Rattle.std.specs.Prelude.{Bool}
use Rattle.rows.specs.Shape.{Shape}
use Rattle.rows.specs.Tables.{Tables}

-- a store as its callers see it: its tables, whether it is whole, and what it was made with
pub record StoreState : Type 0 where
  pub tables : Tables
  -- whether its tables stand as its changes made them; once it is not, it never is again
  pub whole : Bool
  -- the kinds of each table's columns when it was made
  pub base_shape : Shape
