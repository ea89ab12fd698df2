-- The gaps of the workers so far are pushed.
use Rattle.std.proofs.Common.{◌≡◌, ◌≤◌, ◌++◌, length, take, drop, vec_capacity}
use Rattle.dispatcher.specs.Gaps.{gaps_from}
use Rattle.dispatcher.proofs.gaps.push_gaps.Given as goal

abbrev pub invariant-loop-worker : goal.invariant-loop-worker
invariant-loop-worker l = record {
  few : length l.gaps.items ≤ l.most;
  capacity : vec_capacity l.gaps ≡ vec_capacity l.fn.gaps;
  rest : take l.most (l.gaps.items ++ gaps_from l.stride l.worker (drop l.worker l.intake) l.bases (drop l.worker l.counts))
      ≡ take l.most (l.fn.gaps.items ++ gaps_from l.stride 0 l.intake l.bases l.counts);
}
