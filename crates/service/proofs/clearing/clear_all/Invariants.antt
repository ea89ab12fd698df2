use Rattle.std.proofs.Common.{◌≡◌, map, ◌++◌, take, drop}
use Rattle.service.specs.Waits.{left_at}
use Rattle.service.proofs.clearing.clear_all.Given as goal

abbrev pub invariant-loop-index : goal.invariant-loop-index
invariant-loop-index l = l.guests ≡ map (left_at l.fn.limits l.fn.now) (take l.index l.fn.guests) ++ drop l.index l.fn.guests
