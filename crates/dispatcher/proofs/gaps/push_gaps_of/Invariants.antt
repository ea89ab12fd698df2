-- The gaps of the seqs so far are pushed.
use Rattle.std.proofs.Common.{◌≡◌, ◌+◌, ◌-◌, ◌≤◌, ◌++◌, length, take, slice_index, vec_capacity}
use Rattle.intake.specs.State.{known_of}
use Rattle.dispatcher.specs.Gaps.{gaps_among, gaps_between}
use Rattle.dispatcher.proofs.gaps.push_gaps_of.Given as goal

abbrev pub invariant-loop-ahead : goal.invariant-loop-ahead
invariant-loop-ahead l = record {
  few : length l.gaps.items ≤ l.most;
  capacity : vec_capacity l.gaps ≡ vec_capacity l.fn.gaps;
  rest : take l.most (l.gaps.items
      ++ gaps_among l.stride l.worker (slice_index l.bases l.worker) (known_of l.intake l.worker) (l.count - (l.first + l.ahead))
      (l.first + l.ahead) l.covered)
      ≡ take l.most (l.fn.gaps.items
      ++ gaps_between l.stride l.worker (known_of l.intake l.worker) (slice_index l.bases l.worker) l.count);
}
