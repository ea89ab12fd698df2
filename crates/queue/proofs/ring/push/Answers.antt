use Rattle.queue.proofs.Keeping.{pushes, learns}
use Rattle.queue.proofs.ring.push.Goals as goal

pub push_as-requires-clause-rule : goal.push_as-requires-clause-rule
push_as-requires-clause-rule g c = (pushes _ _ _ _ c.requires.one, learns _ _ c.requires.one)
