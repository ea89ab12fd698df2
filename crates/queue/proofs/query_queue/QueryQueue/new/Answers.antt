use Rattle.queue.proofs.Keeping.{begins}
use Rattle.queue.proofs.query_queue.QueryQueue.new.Goals as goal

pub ruled-requires-clause-rule : goal.ruled-requires-clause-rule
ruled-requires-clause-rule c = begins
