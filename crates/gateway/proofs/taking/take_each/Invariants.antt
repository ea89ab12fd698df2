-- The jobs so far were taken.
use Rattle.std.proofs.Common.{take}
use Rattle.rows.specs.Shape.{shape_of}
use Rattle.gateway.specs.Inner.Taking.{AreTaken}
use Rattle.gateway.proofs.taking.take_each.Given as goal

abbrev pub invariant-loop-index : goal.invariant-loop-index
invariant-loop-index g l =
    AreTaken g.L.Line.workers (shape_of g.L.Line.schema) (take l.index l.jobs) l.fn.job_seat l.job_seat l.told.items
