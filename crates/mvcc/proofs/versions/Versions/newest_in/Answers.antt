-- The number that is kept of the table.
use Rattle.std.proofs.Common.{◌∙◌}
use Rattle.rows.specs.Shape.{shape_of}
use Rattle.mvcc.proofs.TableCommits.{last-in}
use Rattle.mvcc.proofs.versions.Versions.newest_in.Goals as goal

pub returns : goal.returns
returns c =
    let inside = c.self.inside in
    let shape = shape_of inside.schema in
    rw (← c.self.view_is)
    (c.of.ensures
    ∙ last-in shape inside.commits.items inside.last c.args.table c.self.invariant.last
    (c.commits_are_defined_one_by_one.ensures.tables shape inside.commits.items c.self.invariant.legal))
