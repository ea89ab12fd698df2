-- So many partitions, each as at the opening.
use Rattle.std.proofs.Common.{◌≡◌, ◌≤◌, replicate}
use Rattle.rows.specs.Shape.{shape_of}
use Rattle.rows.specs.Tables.{opening}
use Rattle.apply.specs.Inner.Views.{views}
use Rattle.apply.proofs.partitions.empty_partitions.Given as goal

abbrev pub invariant-loop : goal.invariant-loop
invariant-loop l = record {
  partitions : views l.partitions.items ≡ replicate l.counter (opening (shape_of l.schema));
  few : l.counter ≤ l.count;
}
