use Rattle.std.proofs.Common.{◌≡◌, map}
use Rattle.service.specs.Rounds.{calls_at}
use Rattle.service.proofs.round.tell_all.Given as goal

abbrev pub invariant-loop-index : goal.invariant-loop-index
invariant-loop-index g l = map calls_at l.guests ≡ map calls_at l.fn.guests
