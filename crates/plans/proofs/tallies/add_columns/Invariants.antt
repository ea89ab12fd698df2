-- The tallies before the index have grown, and the others are as they were.
use Rattle.std.proofs.Common.{◌≡◌, ℕ, ◌+◌, ◌<◌, ◌≤◌, length, slice_index_or}
use Rattle.queries.specs.declared.aggregate.Aggregate.{Aggregate}
use Rattle.plans.specs.declared.input.Input.{Input}
use Rattle.plans.specs.declared.tallies.Tally.{Tally}
use Rattle.plans.specs.Inner.Numbered.{IsColumn, IsGrown}
use Rattle.plans.proofs.tallies.add_columns.Given as goal

abbrev pub invariant-loop-index : goal.invariant-loop-index
invariant-loop-index l = record {
  sizes : length l.columns ≡ length l.initial.columns;
  shaped : (k : ℕ) (t : Tally) → k < l.index → (d : Aggregate)
      → IsColumn l.places (l.rows + length l.numbers) (slice_index_or l.aggregates k d) (slice_index_or l.columns k t);
  grown : (k : ℕ) (t : Tally) → k < l.index → (d : Aggregate) (e : Input)
      → IsGrown l.numbers (slice_index_or l.aggregates k d) (slice_index_or l.inputs k e) (slice_index_or l.initial.columns k t)
      (slice_index_or l.columns k t);
  left : (k : ℕ) (t : Tally) → l.index ≤ k → slice_index_or l.columns k t ≡ slice_index_or l.initial.columns k t;
}
