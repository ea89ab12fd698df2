-- The turns so far lead from the desk as it was.
use Rattle.rows.specs.Shape.{shape_of}
use Rattle.service.specs.Houses.{served_by}
use Rattle.gateway.specs.Serving.{Serves}
use Rattle.gateway.proofs.serving.serve_on.Given as goal

abbrev pub invariant-loop : goal.invariant-loop
invariant-loop g l = Serves g.L.Line.workers (shape_of g.L.Line.schema) (served_by l.fn.house) (served_by l.house)
