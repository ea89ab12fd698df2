-- The jobs of the worker so far were taken.
use Rattle.std.proofs.Common.{take}
use Rattle.rows.specs.Shape.{shape_of}
use Rattle.sockets.specs.JobSeats.{GoesOn}
use Rattle.sockets.specs.Work.{jobs_of}
use Rattle.sockets.proofs.job_seat.JobSeat.takes_all.Given as goal

abbrev pub invariant-loop-index : goal.invariant-loop-index
invariant-loop-index g l =
    GoesOn g.L.Line.workers (shape_of g.L.Line.schema) 0 (jobs_of l.number (take l.index l.jobs)) l.fn.self l.self
