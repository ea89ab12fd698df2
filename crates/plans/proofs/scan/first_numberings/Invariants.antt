-- The plans before the index have their numbers.
use Rattle.std.proofs.Common.{◌≡◌, ℕ, ◌<◌, [], ◌∷◌, length, get_or}
use Rattle.plans.specs.declared.numbering.Numbering.{Numbering}
use Rattle.queries.specs.declared.plan.Plan.{Plan}
use Rattle.plans.specs.Inner.Blocks.{IsNumbering}
use Rattle.plans.proofs.scan.first_numberings.Given as goal

abbrev pub invariant-loop-plan : goal.invariant-loop-plan
invariant-loop-plan l = record {
  sizes : length l.numberings.items ≡ l.plan-index;
  each : (r : ℕ) (d : Numbering) → r < l.plan-index → IsNumbering (get_or l.numberings.items r d);
  one : (r : ℕ) (d : Numbering) (e : Plan) → r < l.plan-index → (get_or l.plans r e).groups ≡ []
      → (get_or l.numberings.items r d).keys.items ≡ [] ∷ [];
}
