use Rattle.std.proofs.Common.{◌≡◌, map, ◌++◌, take, drop}
use Rattle.service.specs.Waits.{released_at}
use Rattle.service.proofs.clearing.release_blocks.Given as goal

abbrev pub invariant-loop-index : goal.invariant-loop-index
invariant-loop-index l = l.guests ≡ map released_at (take l.index l.fn.guests) ++ drop l.index l.fn.guests
