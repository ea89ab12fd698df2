-- The plans before the index have their tallies.
use Rattle.std.proofs.Common.{◌≡◌, ℕ, ◌<◌, length, get_or}
use Rattle.queries.specs.declared.plan.Plan.{Plan}
use Rattle.plans.specs.declared.tallies.Tallies.{Tallies}
use Rattle.plans.specs.Inner.Scans.{AreFirst}
use Rattle.plans.proofs.scan.first_tallies.Given as goal

abbrev pub invariant-loop-plan : goal.invariant-loop-plan
invariant-loop-plan l = record {
  sizes : length l.list.items ≡ l.plan-index;
  each : (p : ℕ) (e : Plan) (t : Tallies) → p < l.plan-index → AreFirst (get_or l.plans p e) (get_or l.list.items p t);
}
