-- No row of the partitions so far is above it.
use Rattle.std.proofs.Common.{ℕ, ◌+◌, ◌<◌, get_or}
use Rattle.rows.specs.Tables.{Tables, rows_of}
use Rattle.apply.specs.Orders.{AllUnder}
use Rattle.apply.specs.Inner.Views.{views}
use Rattle.apply.proofs.partitions.greatest.Given as goal

abbrev pub invariant-loop-partition : goal.invariant-loop-partition
invariant-loop-partition l =
    (k : ℕ) (d : Tables) → k < l.partition-index → AllUnder (l.most + 1) (rows_of (get_or (views l.partitions) k d) l.table)
