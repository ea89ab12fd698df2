-- The first worker's seat has seen what those before have, and the others are as they were.
use Rattle.std.proofs.Common.{◌≡◌, ℕ, ◌<◌, ◌≤◌, get_or}
use mathlib.Core.List.{IsPrefix}
use Rattle.rows.specs.Shape.{shape_of}
use Rattle.sockets.specs.Inner.Jobs.{HasMet}
use Rattle.sockets.specs.Worker.{WorkerState}
use Rattle.sockets.proofs.ending.meet_first.Given as goal

abbrev pub invariant-loop-other : goal.invariant-loop-other
invariant-loop-other g l = record {
  first : HasMet g.L.Line.workers (shape_of g.L.Line.schema) l.fn.first l.first;
  met : (number : ℕ) (any : WorkerState) → number < l.other-index
      → HasMet g.L.Line.workers (shape_of g.L.Line.schema) (get_or l.fn.others number any) (get_or l.other-items number any);
  seen : (number : ℕ) (any : WorkerState) → number < l.other-index
      → IsPrefix (get_or l.other-items number any).seat.list l.first.seat.list;
  left : (number : ℕ) (any : WorkerState) → l.other-index ≤ number → get_or l.other-items number any ≡ get_or l.fn.others number any;
}
