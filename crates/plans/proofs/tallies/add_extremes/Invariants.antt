-- With the rows that are left, each value is what it is to be.
use Rattle.std.proofs.Common.{◌≡◌, ℕ, ◌<◌, length, drop, slice_index_or}
use Rattle.plans.specs.Inner.Picked.{picked, folded}
use Rattle.queries.specs.declared.field.Field.{Field}
use Rattle.plans.specs.Inner.Numbered.{with_extreme}
use Rattle.plans.proofs.tallies.add_extremes.Given as goal

abbrev pub invariant-loop-i : goal.invariant-loop-i
invariant-loop-i l = record {
  len : length l.fields ≡ length l.initial.fields;
  fields : (n : ℕ) (d : Field) → n < length l.initial.fields
      → folded (with_extreme l.aggregate) (slice_index_or l.fields n d) (picked n (drop l.i l.numbers) (drop l.i l.values))
      ≡ folded (with_extreme l.aggregate) (slice_index_or l.initial.fields n d) (picked n l.numbers l.values);
}
