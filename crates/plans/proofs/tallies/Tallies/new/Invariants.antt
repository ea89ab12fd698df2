-- There is a tally of no rows for each aggregate before the index.
use Rattle.std.proofs.Common.{◌≡◌, ℕ, ◌<◌, [], length, List, slice_index_or}
use Rattle.queries.specs.declared.aggregate.Aggregate.{Aggregate}
use Rattle.queries.specs.declared.column.Column.{Column}
use Rattle.plans.specs.declared.tallies.Tally.{Tally}
use Rattle.plans.specs.Inner.Numbered.{IsColumn, IsTold}
use Rattle.plans.proofs.tallies.Tallies.new.Given as goal

abbrev pub invariant-loop-aggregate : goal.invariant-loop-aggregate
invariant-loop-aggregate l = record {
  sizes : length l.columns.items ≡ l.aggregate-index;
  shaped : (k : ℕ) (t : Tally) → k < l.aggregate-index → (d : Aggregate)
      → IsColumn 0 0 (slice_index_or l.aggregates k d) (slice_index_or l.columns.items k t);
  told : (k : ℕ) (t : Tally) → k < l.aggregate-index → (d : Aggregate) (columns : List Column)
      → IsTold columns [] [] (slice_index_or l.aggregates k d) (slice_index_or l.columns.items k t);
}
