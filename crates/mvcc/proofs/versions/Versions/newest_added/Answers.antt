-- The last of the numbers that are kept of the table's columns.
use Rattle.std.proofs.Common.{◌∙◌}
use Rattle.rows.specs.Shape.{shape_of}
use Rattle.mvcc.proofs.TableCommits.{last-added}
use Rattle.mvcc.proofs.versions.Versions.newest_added.Goals as goal

pub returns : goal.returns
returns c =
    let inside = c.self.inside in
    let shape = shape_of inside.schema in
    rw (← c.self.view_is)
    (c.last_added.ensures
    ∙ last-added shape inside.commits.items inside.columns c.args.table c.self.invariant.columns
    (c.commits_are_defined_one_by_one.ensures.tables shape inside.commits.items c.self.invariant.legal))
