-- One worker more is at a new seat.
use Rattle.std.proofs.Common.{◌≡◌, ap, ◌∙◌, arith}
use Rattle.std.proofs.lemmas.List.Elements.{All-push}
use Rattle.sockets.specs.Worker.{WorkerState}
use Rattle.sockets.proofs.crew.crew_of.Goals as goal

pub loop-preserved : goal.loop-preserved
loop-preserved g c =
    let first = g.L.Origin.first.durable in
    record {
      count = omega (arith, c.push_reserved.ensures.len, c.loop.invariant.count);
      few = omega (arith, c.loop-test.true);
      room = omega (arith, c.push_reserved.ensures.capacity, c.loop.invariant.room);
      new =
          rw c.push_reserved.ensures.items (All-push (λ (worker : WorkerState). worker.seat.list ≡ first) c.loop.crew.items c.new.result
          c.loop.invariant.new (ap (λ (worker : WorkerState). worker.seat.list) c.new.ensures ∙ c.in-Some.ensures.new.list));
    }
