-- The partitions before the index have made theirs, and the others are as they were.
use Rattle.std.proofs.Common.{◌≡◌, ℕ, ◌+◌, ◌<◌, ◌≤◌, length, slice_index_or}
use Rattle.rows.specs.Tables.{apply_entries}
use Rattle.store.specs.Faults.{have_entries}
use Rattle.apply.specs.declared.partition.Partition.{Partition}
use Rattle.apply.specs.Inner.Ends.{EndsAs}
use Rattle.apply.specs.Inner.Gathered.{entries_in, entries_of}
use Rattle.apply.proofs.own.apply_own.Given as goal

abbrev pub invariant-loop-index : goal.invariant-loop-index
invariant-loop-index l = record {
  len : length l.partitions ≡ length l.fn.partitions;
  ends : (j : ℕ) (d : Partition) → j < l.index → EndsAs (have_entries l.commits)
      (apply_entries (slice_index_or l.fn.partitions j d).tables.items (entries_in l.count (l.first + j) (entries_of l.commits)))
      (slice_index_or l.partitions j d).tables.items (slice_index_or l.partitions j d).fault;
  left : (j : ℕ) (d : Partition) → l.index ≤ j → slice_index_or l.partitions j d ≡ slice_index_or l.fn.partitions j d;
}
