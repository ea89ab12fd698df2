-- One turn more.
use Rattle.rows.specs.Shape.{shape_of}
use Rattle.service.specs.Houses.{served_by}
use Rattle.gateway.proofs.Turns.{serves-more}
use Rattle.gateway.proofs.serving.serve_on.Goals as goal

pub loop-preserved : goal.loop-preserved
loop-preserved g c =
    let workers = g.L.Line.workers in
    let shape = shape_of g.L.Line.schema in
    serves-more workers shape (served_by c.args.house.now) (served_by c.loop.house) (served_by c.turn.new.self) c.loop.invariant
    c.in-Ok.ensures
