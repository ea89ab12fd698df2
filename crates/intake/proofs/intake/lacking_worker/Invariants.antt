-- Of the workers so far none lacks a frame.
use Rattle.std.proofs.Common.{◌≡◌, drop}
use Rattle.intake.specs.Steps.{lacking_from, lacking}
use Rattle.intake.proofs.intake.lacking_worker.Given as goal

abbrev pub invariant-loop-worker : goal.invariant-loop-worker
invariant-loop-worker l =
    lacking_from l.worker (drop l.worker l.workers) l.bases (drop l.worker l.counts) ≡ lacking l.workers l.bases l.counts
