-- The list that is told is one that a journal may be of.
use Rattle.rows.specs.Shape.{shape_of}
use Rattle.scenarios_published.proofs.Kept.{first_journaled}
use Rattle.scenarios_published.proofs.telling.Telling.seat.Goals as goal

pub new-requires : goal.new-requires
new-requires g c =
    rw (c.front.ensures, c.self.invariant.2) (
    first_journaled c.beginnings_are_journaled.ensures.beginning g.L.Line.workers (shape_of g.L.Line.schema) c.self.inside.commits.items
    c.self.inside.told c.self.invariant.0
    )
