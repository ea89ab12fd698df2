-- The next commit, copied.
use Rattle.rows.specs.Shape.{shape_of}
use Rattle.scenarios_published.proofs.Kept.{next_copy}
use Rattle.scenarios_published.proofs.telling.next_of.Goals as goal

pub returns-clause-next : goal.returns-clause-next
returns-clause-next g c =
    (next_copy c.beginnings_are_journaled.ensures.beginning g.L.Line.workers (shape_of g.L.Line.schema) c.args.commits.now c.args.told
    c.index-commits-told.result c.copy_of.result
    c.requires.more c.index-commits-told.is c.requires.legal c.copy_of.ensures).0

pub returns-clause-legal : goal.returns-clause-legal
returns-clause-legal g c =
    (next_copy c.beginnings_are_journaled.ensures.beginning g.L.Line.workers (shape_of g.L.Line.schema) c.args.commits.now c.args.told
    c.index-commits-told.result c.copy_of.result
    c.requires.more c.index-commits-told.is c.requires.legal c.copy_of.ensures).1
