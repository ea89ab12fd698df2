-- The workers before this one are passed.
use Rattle.std.proofs.Common.{◌≡◌, length, drop, nat_le}
use Rattle.std.specs.Cmp.Lexicographic.{pointwise}
use Rattle.wire.proofs.counts.none_above.Given as goal

abbrev pub invariant-loop-worker : goal.invariant-loop-worker
invariant-loop-worker l = record {
  many : length l.lows ≡ length l.counts;
  rest : pointwise nat_le l.lows l.counts ≡ pointwise nat_le (drop l.worker l.lows) (drop l.worker l.counts);
}
