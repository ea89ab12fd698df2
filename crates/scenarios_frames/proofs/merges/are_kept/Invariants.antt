-- The frames of each worker so far are kept.
use Rattle.std.proofs.Common.{◌<◌, ℕ, get_or}
use Rattle.intake.specs.Kept.{AreKept}
use Rattle.scenarios_frames.proofs.merges.are_kept.Given as goal

abbrev pub invariant-loop-worker : goal.invariant-loop-worker
invariant-loop-worker l = (k : ℕ) → k < l.worker → AreKept l.intake k (get_or l.low k 0) (get_or l.high k 0)
