-- The plans before the index have their classes.
use Rattle.std.proofs.Common.{◌≡◌, ℕ, ◌<◌, length, slice_index_or}
use Rattle.queries.specs.declared.plan.Plan.{Plan}
use Rattle.plans.specs.Inner.Scans.{AreAlike}
use Rattle.plans.proofs.classes.classes_of.Given as goal

abbrev pub invariant-loop-plan : goal.invariant-loop-plan
invariant-loop-plan l = record {
  sizes : length l.classes.items ≡ l.plan;
  within : (p : ℕ) (n : ℕ) → p < l.plan → slice_index_or l.classes.items p n < length l.plans;
  alike : (p : ℕ) (n : ℕ) (d : Plan) → p < l.plan
      → AreAlike (slice_index_or l.plans (slice_index_or l.classes.items p n) d) (slice_index_or l.plans p d);
}
