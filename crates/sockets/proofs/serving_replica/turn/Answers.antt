-- The queries of the queue, and then the turn.
use Rattle.sockets.proofs.Stepping.{turn_serves}
use Rattle.sockets.proofs.serving_replica.turn.Goals as goal

pub returns-in-Ok-clause-serves : goal.returns-in-Ok-clause-serves
returns-in-Ok-clause-serves g c =
    turn_serves _ _ _ _ _ _ _ _ _ _ _ (rw c.in-Ok.is at c.offer_taken.ensures.offers) c.report_of_turn.ensures.does
