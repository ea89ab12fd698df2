-- The workers so far have gained.
use Rattle.std.proofs.Common.{◌≡◌}
use Rattle.intake.specs.Steps.{gained}
use Rattle.intake.proofs.Workers.{gained_from}
use Rattle.intake.proofs.intake.gain_each.Given as goal

abbrev pub invariant-loop-worker : goal.invariant-loop-worker
invariant-loop-worker l = gained_from l.worker l.workers l.bases ≡ gained l.initial.workers l.bases
