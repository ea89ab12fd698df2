-- The partitions so far have none.
use Rattle.std.proofs.Common.{◌≡◌, ℕ, ◌<◌, None, slice_index_or}
use Rattle.apply.proofs.together.first_fault.Given as goal

abbrev pub invariant-loop-partition : goal.invariant-loop-partition
invariant-loop-partition l = (k : ℕ) (d : _) → k < l.partition-index → (slice_index_or l.partitions k d).fault ≡ None
