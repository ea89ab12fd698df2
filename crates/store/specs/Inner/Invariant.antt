-- How the parts of a plain store are seen, and what holds of them.
use Rattle.std.specs.Prelude.{◌≡◌, true}
use Rattle.rows.specs.Shape.{shape_of}
use Rattle.rows.specs.Tables.{RowsAreOfKinds}
use Rattle.store.specs.Changes.{BeganWith}
use Rattle.store.specs.State.{StoreState}
use Rattle.store.specs.declared.plain_store.PlainStore.TheInside.{Inside}

abbrev pub state_of : Inside → StoreState
state_of a = record { tables = a.tables.items; whole = a.whole; base_shape = shape_of a.schema }

-- while it is whole, each row's values are of its columns' kinds, and the tables have the columns that they began with
pub record IsStore (a : Inside) : Type 0 where
  pub kinds : a.whole ≡ true → RowsAreOfKinds a.tables.items
  pub began : a.whole ≡ true → BeganWith (shape_of a.schema) a.tables.items
