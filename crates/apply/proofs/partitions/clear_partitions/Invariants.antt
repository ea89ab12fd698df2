-- The partitions before the index are as at the opening, and the others are as they were.
use Rattle.std.proofs.Common.{◌≡◌, ◌++◌, length, take, drop, replicate}
use Rattle.rows.specs.Shape.{shape_of}
use Rattle.rows.specs.Tables.{opening}
use Rattle.apply.specs.Inner.Views.{views}
use Rattle.apply.proofs.partitions.clear_partitions.Given as goal

abbrev pub invariant-loop-k : goal.invariant-loop-k
invariant-loop-k l =
    views l.partitions ≡ take l.k (replicate (length l.initial.partitions) (opening (shape_of l.schema)))
    ++ drop l.k (views l.initial.partitions)
