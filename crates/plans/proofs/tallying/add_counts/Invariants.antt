-- With the rows that are left, each count is what it is to be.
use Rattle.std.proofs.Common.{◌≡◌, ℕ, ◌+◌, ◌<◌, ◌≤◌, length, drop, slice_index_or}
use Rattle.plans.specs.Inner.Picked.{picked, folded}
use Rattle.plans.proofs.tallying.add_counts.Given as goal

abbrev pub invariant-loop-i : goal.invariant-loop-i
invariant-loop-i l = record {
  len : length l.counts ≡ length l.initial.counts;
  within : (n : ℕ) (d : ℕ) → n < length l.initial.counts → slice_index_or l.counts n d ≤ l.rows + l.i;
  counts : (n : ℕ) (d : ℕ) → n < length l.initial.counts
      → folded (λ count number. count + 1) (slice_index_or l.counts n d) (picked n (drop l.i l.numbers) (drop l.i l.numbers))
      ≡ folded (λ count number. count + 1) (slice_index_or l.initial.counts n d) (picked n l.numbers l.numbers);
}
