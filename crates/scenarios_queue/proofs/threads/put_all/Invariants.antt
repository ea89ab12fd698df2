-- The pass stays one of the queue.
use Rattle.queue.specs.Passes.{IsPassOf}
use Rattle.scenarios_queue.proofs.threads.put_all.Given as goal

abbrev pub invariant-loop-number : goal.invariant-loop-number
invariant-loop-number g l = IsPassOf l.queue l.pass
