-- The frames so far are kept.
use Rattle.std.proofs.Common.{◌≤◌, ◌<◌, ℕ, IsSome}
use Rattle.intake.specs.State.{frame_of}
use Rattle.scenarios_frames.proofs.merges.is_kept.Given as goal

abbrev pub invariant-loop-seq : goal.invariant-loop-seq
invariant-loop-seq l = (k : ℕ) → l.first ≤ k → k < l.seq → IsSome (frame_of l.intake l.worker k)
