-- The pieces so far are marked as they should be.
use Rattle.dispatcher.proofs.Collecting.{IsMarkedFrom}
use Rattle.dispatcher.proofs.pieces.are_marked.Given as goal

abbrev pub invariant-loop-number : goal.invariant-loop-number
invariant-loop-number l = IsMarkedFrom l.intake l.number l.pieces
