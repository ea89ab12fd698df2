-- The numbers of the workers before this one, in turn.
use Rattle.std.proofs.Common.{◌≡◌, ◌*◌, length, take}
use Rattle.wire.specs.Spelling.{in_turn}
use Rattle.wire.proofs.writing.in_turn.Given as goal

abbrev pub invariant-loop-worker : goal.invariant-loop-worker
invariant-loop-worker l = record {
  numbers : l.numbers.items ≡ in_turn (take l.worker l.lows) (take l.worker l.counts);
  many : length l.numbers.items ≡ 2 * l.worker;
}
