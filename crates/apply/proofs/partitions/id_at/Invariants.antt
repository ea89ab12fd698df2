-- As many as the index are at least below no more than `low`, and more below what is behind `high`.
use Rattle.std.proofs.Common.{◌+◌, ◌-◌, ◌<◌, ◌≤◌}
use Rattle.rows.specs.Tables.{rows_of}
use Rattle.apply.specs.Orders.{place_in}
use Rattle.apply.specs.Partitions.{tables_in}
use Rattle.apply.specs.Inner.Views.{views}
use Rattle.apply.proofs.partitions.id_at.Given as goal

abbrev pub invariant-loop-low : goal.invariant-loop-low
invariant-loop-low l = record {
  below : place_in (rows_of (tables_in (views l.partitions)) l.table) l.low ≤ l.i;
  within : l.i < place_in (rows_of (tables_in (views l.partitions)) l.table) (l.high + 1);
  order : l.low ≤ l.high;
}

abbrev pub decreases-loop-low : goal.decreases-loop-low
decreases-loop-low l = l.high - l.low
