-- The batch so far, the moment at which the pass stands once it took a plan, and the room that is left.
use Rattle.std.proofs.Common.{◌+◌, ◌<◌, ◌≤◌, vec_len, vec_capacity}
use Rattle.queue.specs.Limits.{batch_plans_max}
use Rattle.queue.specs.Passes.{IsPassOf, moves_of}
use Rattle.queue.specs.Rule.{AreMovesOfMoment, TakesBatch}
use Rattle.queue.proofs.query_queue.QueryQueue.take_batch.Given as goal

abbrev pub invariant-loop-count : goal.invariant-loop-count
invariant-loop-count g l = record {
  same : IsPassOf l.self l.pass;
  batch : TakesBatch (moves_of l.fn.pass) l.fn.batch.items l.count (moves_of l.pass) l.batch.items;
  stands : 0 < l.count → AreMovesOfMoment (moves_of l.pass);
  room : vec_len l.batch + batch_plans_max ≤ vec_capacity l.batch + l.count;
}
