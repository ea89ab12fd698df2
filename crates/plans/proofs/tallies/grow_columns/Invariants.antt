-- The tallies before the index have places for all keys, and the others are as they were.
use Rattle.std.proofs.Common.{◌≡◌, ℕ, ◌<◌, ◌≤◌, length, slice_index_or}
use Rattle.plans.specs.declared.tallies.Tally.{Tally}
use Rattle.plans.specs.Inner.Numbered.{IsResized}
use Rattle.plans.proofs.tallies.grow_columns.Given as goal

abbrev pub invariant-loop-index : goal.invariant-loop-index
invariant-loop-index l = record {
  sizes : length l.columns ≡ length l.initial.columns;
  done : (k : ℕ) (t : Tally) → k < l.index → IsResized l.keys (slice_index_or l.initial.columns k t) (slice_index_or l.columns k t);
  left : (k : ℕ) (t : Tally) → l.index ≤ k → slice_index_or l.columns k t ≡ slice_index_or l.initial.columns k t;
}
