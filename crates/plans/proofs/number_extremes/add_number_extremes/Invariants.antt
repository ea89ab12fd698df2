-- With the rows that are left, each value is what it is to be.
use Rattle.std.proofs.Common.{◌≡◌, ℕ, ◌<◌, length, map, drop, slice_index_or}
use Rattle.rows.specs.declared.value.Value.TheVariants.{Int}
use Rattle.plans.specs.Inner.Picked.{picked, folded}
use Rattle.queries.specs.declared.field.Field.{Field}
use Rattle.plans.specs.Inner.Numbered.{with_extreme}
use Rattle.plans.proofs.number_extremes.add_number_extremes.Given as goal

abbrev pub invariant-loop-i : goal.invariant-loop-i
invariant-loop-i l = record {
  len : length l.fields ≡ length l.initial.fields;
  fields : (n : ℕ) (d : Field) → n < length l.initial.fields
      → folded (with_extreme l.aggregate) (slice_index_or l.fields n d) (picked n (drop l.i l.numbers) (drop l.i (map Int l.values)))
      ≡ folded (with_extreme l.aggregate) (slice_index_or l.initial.fields n d) (picked n l.numbers (map Int l.values));
}
