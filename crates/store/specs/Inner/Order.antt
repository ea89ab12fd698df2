-- What holds of the parts of a table: its columns are such as a table may have, and its identifiers are those of its
-- rows, in rising order.
use Rattle.std.specs.Prelude.{◌≡◌}
use Rattle.std.specs.List.Sorted.{IsStrictlySortedBy}
use Rattle.std.specs.Map.{keys_of}
use Rattle.std.specs.Ordering.{nat_cmp}
use Rattle.rows.specs.Shape.{AreColumns}
use Rattle.store.specs.declared.table_map.TableMap.TheInside.{Inside}

pub record IsTableMap (a : Inside) : Type 0 where
  pub columns : AreColumns a.kinds
  pub ids : a.ids.items ≡ keys_of a.rows.entries
  pub rise : IsStrictlySortedBy nat_cmp a.ids.items
