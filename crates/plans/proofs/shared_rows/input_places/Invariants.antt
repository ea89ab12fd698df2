-- The places of the aggregates before the index.
use Rattle.std.proofs.Common.{◌≡◌, ℕ, ◌<◌, length, get_or}
use Rattle.queries.specs.declared.aggregate.Aggregate.{Aggregate}
use Rattle.plans.specs.Inner.Partnered.{joined_rows, AreFilled, Grows}
use Rattle.plans.specs.Inner.Shared.{IsInputOfRows}
use Rattle.plans.proofs.shared_rows.input_places.Given as goal

abbrev pub invariant-loop-aggregate : goal.invariant-loop-aggregate
invariant-loop-aggregate g l = record {
  sizes : length l.places.items ≡ l.aggregate-index;
  filled : AreFilled (joined_rows (g.S.Store.tables l.store) (g.S.Store.values_at l.store) l.block l.partners) l.filled;
  grows : Grows l.initial.filled.cells.items l.filled.cells.items;
  each : (k : ℕ) (d : Aggregate) → k < l.aggregate-index → IsInputOfRows l.filled.cells.items (get_or l.places.items k 0)
      (joined_rows (g.S.Store.tables l.store) (g.S.Store.values_at l.store) l.block l.partners) (get_or l.aggregates k d);
}
