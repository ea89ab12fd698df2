-- No worker so far.
use Rattle.std.proofs.Common.{◌≡◌, ◌<◌, ℕ, false}
use Rattle.ordering.specs.Inner.Progress.{is_first_numbered}
use Rattle.ordering.specs.Merging.{frames_in}
use Rattle.ordering.proofs.merging.worker_of.Given as goal

abbrev pub invariant-loop-worker : goal.invariant-loop-worker
invariant-loop-worker l = (k : ℕ) → k < l.worker → is_first_numbered l.number (frames_in l.intake l.at l.high k) ≡ false
