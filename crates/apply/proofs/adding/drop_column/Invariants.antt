-- The partitions before the index have dropped it, and the others are as they were.
use Rattle.std.proofs.Common.{◌≡◌, ◌++◌, map, take, drop}
use Rattle.rows.specs.Tables.{Tables}
use Rattle.apply.specs.Blocks.{dropped}
use Rattle.apply.specs.Inner.Views.{views}
use Rattle.apply.proofs.adding.drop_column.Given as goal

abbrev pub invariant-loop-k : goal.invariant-loop-k
invariant-loop-k l =
    views l.partitions ≡ take l.k (map (λ (tables : Tables). dropped tables l.table) (views l.initial.partitions))
    ++ drop l.k (views l.initial.partitions)
