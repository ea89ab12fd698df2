-- How many rows of the partitions so far are below it.
use Rattle.std.proofs.Common.{◌≡◌, ◌*◌, ◌≤◌, take}
use Rattle.std.specs.List.{sum_by}
use Rattle.rows.specs.Tables.{Tables, rows_of}
use Rattle.apply.specs.Inner.Views.{views}
use Rattle.apply.specs.Limits.{rows_max}
use Rattle.apply.specs.Orders.{place_in}
use Rattle.apply.proofs.partitions.place.Given as goal

abbrev pub invariant-loop-partition : goal.invariant-loop-partition
invariant-loop-partition l = record {
  value : l.rows ≡ sum_by (λ (partition : Tables). place_in (rows_of partition l.table) l.row)
      (take l.partition-index (views l.partitions));
  few : l.rows ≤ l.partition-index * rows_max;
}
