-- The Ask is a step, and the run and the receives are steps behind it.
use Rattle.sockets.proofs.Stepping.{does_on}
use Rattle.sockets.proofs.replica_node.ReplicaNode.turn.Goals as goal

pub returns-in-Ok-clause-does : goal.returns-in-Ok-clause-does
returns-in-Ok-clause-does g c = does_on _ _ _ _ _ _ _ _ _ _ _ _ _ c.ask.ensures.does c.turn_of_batch.ensures.does
