use Rattle.queue.proofs.Keeping.{pops, learns}
use Rattle.queue.proofs.ring.pop.Goals as goal

pub pop_as-requires-clause-rule : goal.pop_as-requires-clause-rule
pop_as-requires-clause-rule g c = (pops _ _ c.requires.one, learns _ _ c.requires.one)
