-- The Pull is sent, or lost.
use Rattle.std.proofs.Common.{refl}
use Rattle.sockets.proofs.Stepping.{does_pull}
use Rattle.sockets.proofs.replica_node.ReplicaNode.send_pull.Goals as goal

pub returns-in-Some-clause-does : goal.returns-in-Some-clause-does
returns-in-Some-clause-does g c =
    rw (← c.self.view_is)
    (does_pull _ _ _ _ _ _ c.args.base c.args.gap c.pull-pull.result refl (rw (← c.self.view_is) at c.requires.image)
    (rw (← c.self.view_is) at c.requires.named) c.pull-pull.ensures c.send.ensures refl)
