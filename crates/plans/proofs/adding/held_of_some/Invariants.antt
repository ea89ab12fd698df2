-- What the aggregates before the index take.
use Rattle.std.proofs.Common.{◌≡◌, ℕ, ◌<◌, length, get_or, map}
use Rattle.queries.specs.declared.aggregate.Aggregate.{Aggregate}
use Rattle.plans.specs.declared.held_input.HeldInput.{HeldInput}
use Rattle.plans.specs.Inner.Cells.{value_at, values_at}
use Rattle.plans.specs.Inner.Held.{IsHeld}
use Rattle.plans.proofs.adding.held_of_some.Given as goal

abbrev pub invariant-loop-index : goal.invariant-loop-index
invariant-loop-index l = record {
  sizes : length l.held.items ≡ l.index;
  each : (k : ℕ) (d : Aggregate) (e : HeldInput) → k < l.index
      → IsHeld (map (value_at (values_at l.columns (get_or l.places k 0))) l.positions) (get_or l.aggregates k d) (get_or l.held.items k e);
}
