-- The first is in front of the others.
use Rattle.sockets.proofs.Crews.{seen-all}
use Rattle.sockets.proofs.ending.meet_all.Goals as goal

pub returns-clause-seen : goal.returns-clause-seen
returns-clause-seen g c =
    seen-all c.split_at_mut-front.result.0.now c.meet_first.new.others c.meet_first.new.first c.split_at_mut-front.ensures.front_len
    c.meet_first.ensures.seen
