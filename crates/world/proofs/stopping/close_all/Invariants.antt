-- The transactions so far are given up, the others are as they were.
use Rattle.std.proofs.Common.{◌≡◌, ◌++◌, take, drop}
use Rattle.world.specs.Stops.{closed}
use Rattle.world.proofs.stopping.close_all.Given as goal

abbrev pub invariant-loop-index : goal.invariant-loop-index
invariant-loop-index l =
    l.transactions ≡ closed (take l.index l.initial.transactions) ++ drop l.index l.initial.transactions
