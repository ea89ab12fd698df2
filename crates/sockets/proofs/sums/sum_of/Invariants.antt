-- The sum so far.
use Rattle.std.proofs.Common.{◌≡◌, sum, min, take}
use Rattle.sockets.proofs.sums.sum_of.Given as goal

abbrev pub invariant-loop-number : goal.invariant-loop-number
invariant-loop-number l = l.sum ≡ min 18446744073709551615 (sum (take l.number-index l.numbers))
