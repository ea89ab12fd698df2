-- Nothing is shared for the plans before the index.
use Rattle.std.proofs.Common.{◌≡◌, ℕ, ◌<◌, Option, None, length, get_or}
use Rattle.plans.specs.declared.shared_rows.SharedRows.{SharedRows}
use Rattle.plans.proofs.scan.none_shared.Given as goal

abbrev pub invariant-loop-plan : goal.invariant-loop-plan
invariant-loop-plan g l = record {
  sizes : length l.shared.items ≡ l.plan;
  none : (r : ℕ) (d : Option (SharedRows _)) → r < l.plan → get_or l.shared.items r d ≡ None;
}
