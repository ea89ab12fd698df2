-- The queries were offered to the replica, and nothing else was done.
use Rattle.std.proofs.Common.{refl}
use Rattle.sockets.proofs.Stepping.{offers_of}
use Rattle.sockets.proofs.replica_node.ReplicaNode.offer_all.Goals as goal

pub returns-clause-offers : goal.returns-clause-offers
returns-clause-offers g c = rw (← c.self.view_is) (offers_of _ _ _ _ _ _ _ _ c.open_all.ensures.opens refl)
