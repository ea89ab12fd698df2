-- The pass stays one of the queue.
use Rattle.queue.specs.Passes.{IsPassOf}
use Rattle.scenarios_queue.proofs.threads.take_all.Given as goal

abbrev pub invariant-loop : goal.invariant-loop
invariant-loop g l = IsPassOf l.queue l.pass
