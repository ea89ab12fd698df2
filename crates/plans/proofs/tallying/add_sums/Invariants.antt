-- With the rows that are left, each sum is what it is to be.
use Rattle.std.proofs.Common.{◌≡◌, ℕ, ℤ, ◌+◌, ◌+ℤ◌, ◌<◌, length, drop, slice_index_or}
use Rattle.plans.specs.Inner.Picked.{picked, folded, AreWithin}
use Rattle.plans.proofs.tallying.add_sums.Given as goal

abbrev pub invariant-loop-i : goal.invariant-loop-i
invariant-loop-i l = record {
  len : length l.sums ≡ length l.initial.sums;
  within : AreWithin (l.rows + l.i) l.sums;
  sums : (n : ℕ) (d : ℤ) → n < length l.initial.sums
      → folded (λ sum value. sum +ℤ value) (slice_index_or l.sums n d) (picked n (drop l.i l.numbers) (drop l.i l.values))
      ≡ folded (λ sum value. sum +ℤ value) (slice_index_or l.initial.sums n d) (picked n l.numbers l.values);
}
