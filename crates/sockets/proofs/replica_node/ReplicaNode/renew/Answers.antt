-- The Ask of the next request is sent, or lost.
use Rattle.std.proofs.Common.{refl}
use Rattle.sockets.proofs.Stepping.{does_renew}
use Rattle.sockets.proofs.replica_node.ReplicaNode.renew.Goals as goal

pub returns-in-Ok : goal.returns-in-Ok
returns-in-Ok g c =
    rw (← c.self.view_is)
    (does_renew _ _ _ _ _ _ c.in-Ok.out c.in-Ok.ensures.ok c.send.ensures refl)
