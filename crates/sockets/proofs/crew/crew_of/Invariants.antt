-- Each worker so far is at a new seat.
use Rattle.std.proofs.Common.{◌≡◌, ◌≤◌}
use Rattle.std.specs.List.{All}
use Rattle.std.specs.Vec.{vec_capacity, vec_len}
use Rattle.sockets.specs.Worker.{WorkerState}
use Rattle.sockets.proofs.crew.crew_of.Given as goal

abbrev pub invariant-loop : goal.invariant-loop
invariant-loop g l = record {
  count : vec_len l.crew ≡ l.counter;
  few : l.counter ≤ l.workers;
  room : l.workers ≤ vec_capacity l.crew;
  new : All (λ (worker : WorkerState). worker.seat.list ≡ g.L.Origin.first.durable) l.crew.items;
}
