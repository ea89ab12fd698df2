-- Each datagram is one step more.
use Rattle.sockets.proofs.Stepping.{does_then}
use Rattle.sockets.proofs.replica_node.ReplicaNode.hear_round.Goals as goal

pub returns-in-Ok-Head-hear-clause-does : goal.returns-in-Ok-Head-hear-clause-does
returns-in-Ok-Head-hear-clause-does g c = does_then _ _ _ _ _ _ _ _ _ _ _ _ _ _ c.loop.invariant c.in-Ok-Head-hear.ensures.does

pub returns-in-Ok-Nothing-hear-clause-does : goal.returns-in-Ok-Nothing-hear-clause-does
returns-in-Ok-Nothing-hear-clause-does g c = does_then _ _ _ _ _ _ _ _ _ _ _ _ _ _ c.loop.invariant c.in-Ok-Nothing-hear.ensures.does

pub returns-in-Err-hear-clause-does : goal.returns-in-Err-hear-clause-does
returns-in-Err-hear-clause-does g c = does_then _ _ _ _ _ _ _ _ _ _ _ _ _ _ c.loop.invariant c.in-Err-hear.ensures.does

pub loop-preserved : goal.loop-preserved
loop-preserved g c = does_then _ _ _ _ _ _ _ _ _ _ _ _ _ _ c.loop.invariant c.in-Ok-Datagram-hear.ensures.does
