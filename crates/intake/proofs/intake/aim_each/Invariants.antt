-- Nothing has changed.
use Rattle.std.proofs.Common.{◌≡◌}
use Rattle.intake.proofs.intake.aim_each.Given as goal

abbrev pub invariant-loop-worker : goal.invariant-loop-worker
invariant-loop-worker l = l.workers ≡ l.initial.workers
