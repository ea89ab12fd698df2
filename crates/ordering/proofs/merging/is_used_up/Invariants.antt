-- No worker so far has a frame left.
use Rattle.std.proofs.Common.{◌≤◌, ◌<◌, ℕ, get_or}
use Rattle.ordering.proofs.merging.is_used_up.Given as goal

abbrev pub invariant-loop-worker : goal.invariant-loop-worker
invariant-loop-worker l = (k : ℕ) → k < l.worker → get_or l.high k 0 ≤ get_or l.at k 0
