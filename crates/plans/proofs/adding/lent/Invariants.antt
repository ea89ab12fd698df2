-- What is lent of the inputs before the index.
use Rattle.std.proofs.Common.{◌≡◌, ℕ, ◌<◌, List, length, get_or}
use Rattle.queries.specs.declared.aggregate.Aggregate.{Aggregate}
use Rattle.plans.specs.declared.input.Input.{Input}
use Rattle.plans.specs.Inner.Held.{IsTaken}
use Rattle.plans.specs.Inner.Selections.{ValuesBy, AreHeldBy}
use Rattle.plans.proofs.adding.lent.Given as goal

abbrev pub invariant-loop-input : goal.invariant-loop-input
invariant-loop-input l = record {
  sizes : length l.inputs.items ≡ l.input-index;
  each : (values : ValuesBy) (aggregates : List Aggregate) → length l.held ≡ length aggregates → AreHeldBy values aggregates l.held
      → (k : ℕ) (d : Aggregate) (e : Input) → k < l.input-index → IsTaken (values k) (get_or aggregates k d) (get_or l.inputs.items k e);
}
