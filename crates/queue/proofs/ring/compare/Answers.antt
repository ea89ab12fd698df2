use Rattle.queue.proofs.Keeping.{merges, splits, tells_apart}
use Rattle.queue.proofs.ring.compare.Goals as goal

pub absorb-requires-clause-rule : goal.absorb-requires-clause-rule
absorb-requires-clause-rule c = merges _ _ _ _

pub learn_as-requires-clause-rule : goal.learn_as-requires-clause-rule
learn_as-requires-clause-rule c = tells_apart _ _

pub another-requires-clause-rule : goal.another-requires-clause-rule
another-requires-clause-rule c = splits _ _
