-- The partitions before the index have the column, and the others are as they were.
use Rattle.std.proofs.Common.{◌≡◌, ◌++◌, take, drop}
use Rattle.apply.specs.Inner.Gathered.{each_made}
use Rattle.apply.specs.Inner.Views.{views}
use Rattle.apply.proofs.adding.add_column.Given as goal

abbrev pub invariant-loop-k : goal.invariant-loop-k
invariant-loop-k l = views l.partitions ≡ take l.k (each_made l.entry (views l.initial.partitions)) ++ drop l.k (views l.initial.partitions)
