-- How many rows the partitions so far have.
use Rattle.std.proofs.Common.{◌≡◌, ◌*◌, ◌≤◌, length, take}
use Rattle.std.specs.List.{sum_by}
use Rattle.rows.specs.Tables.{Tables, rows_of}
use Rattle.apply.specs.Inner.Views.{views}
use Rattle.apply.specs.Limits.{rows_max}
use Rattle.apply.proofs.partitions.len.Given as goal

abbrev pub invariant-loop-partition : goal.invariant-loop-partition
invariant-loop-partition l = record {
  value : l.rows ≡ sum_by (λ (partition : Tables). length (rows_of partition l.table)) (take l.partition-index (views l.partitions));
  few : l.rows ≤ l.partition-index * rows_max;
}
