-- How the parts of a store of columns are seen, and what holds of them.
use Rattle.std.specs.Prelude.{◌≡◌, ◌<◌, ◌≤◌, length, true}
use Rattle.rows.specs.Shape.{shape_of}
use Rattle.rows.specs.Tables.{RowsAreOfKinds}
use Rattle.store.specs.Changes.{BeganWith}
use Rattle.apply.specs.Limits.{partitions_max}
use Rattle.apply.specs.Partitions.{ColumnState, tables_in}
use Rattle.apply.specs.Inner.Gathered.{ArePartitions}
use Rattle.apply.specs.Inner.Views.{views}
use Rattle.apply.specs.declared.column_store.ColumnStore.TheInside.{Inside}

abbrev pub state_of : Inside → ColumnState
state_of s = record { partitions = views s.partitions.items; whole = s.whole; base_shape = shape_of s.schema }

pub record IsColumnStore (s : Inside) : Type 0 where
  pub some : 0 < length s.partitions.items
  pub few : length s.partitions.items ≤ partitions_max
  -- while it is whole, each partition has the rows that are its own, with values of their columns' kinds, and the tables have the columns
  -- that they began with
  pub partitions : s.whole ≡ true → ArePartitions (views s.partitions.items)
  pub kinds : s.whole ≡ true → RowsAreOfKinds (tables_in (views s.partitions.items))
  pub began : s.whole ≡ true → BeganWith (shape_of s.schema) (tables_in (views s.partitions.items))
