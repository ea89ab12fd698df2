use Rattle.queue.proofs.Keeping.{admits}
use Rattle.queue.proofs.query_queue.QueryQueue.are_apart.Goals as goal

pub pass-requires : goal.pass-requires
pass-requires c = admits
