-- The workers so far are done.
use Rattle.std.proofs.Common.{◌≡◌}
use Rattle.intake.specs.Steps.{dropped}
use Rattle.intake.proofs.Workers.{dropped_from}
use Rattle.intake.proofs.intake.drop_each.Given as goal

abbrev pub invariant-loop-worker : goal.invariant-loop-worker
invariant-loop-worker l = dropped_from l.worker l.workers l.counts ≡ dropped l.initial.workers l.counts
