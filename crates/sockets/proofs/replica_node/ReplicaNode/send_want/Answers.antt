-- The Want is sent, or lost.
use Rattle.std.proofs.Common.{refl}
use Rattle.sockets.proofs.Stepping.{does_want}
use Rattle.sockets.proofs.replica_node.ReplicaNode.send_want.Goals as goal

pub returns-in-Some-clause-does : goal.returns-in-Some-clause-does
returns-in-Some-clause-does g c =
    rw (← c.self.view_is)
    (does_want _ _ _ _ _ _ c.args.gap c.want-want.result refl (rw (← c.self.view_is) at c.requires.named) c.want-want.ensures
    c.send.ensures refl)
