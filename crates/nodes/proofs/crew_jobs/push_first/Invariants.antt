-- The answers that are left are those of the worker's first jobs that are left.
use Rattle.std.proofs.Common.{◌≤◌, length}
use Rattle.rows.specs.Shape.{shape_of}
use Rattle.sockets.specs.Answers.{IsJobAnswer}
use Rattle.nodes.proofs.Choosing.{Left}
use Rattle.nodes.proofs.crew_jobs.push_first.Given as goal

abbrev pub invariant-loop-index : goal.invariant-loop-index
invariant-loop-index g l = record {
  within : l.place ≤ length l.answers;
  left : Left (IsJobAnswer (shape_of g.L.Line.schema) 0 l.worker.seat.list) l.number l.jobs l.answers l.index l.place;
}
