-- The Ask is sent, or lost.
use Rattle.std.proofs.Common.{refl}
use Rattle.sockets.proofs.Stepping.{does_ask}
use Rattle.sockets.proofs.replica_node.ReplicaNode.ask.Goals as goal

pub returns-in-Ok-clause-does : goal.returns-in-Ok-clause-does
returns-in-Ok-clause-does g c =
    rw (← c.self.view_is)
    (does_ask _ _ _ _ _ _ c.in-Ok.out c.in-Ok.ensures.ok c.send.ensures refl)
