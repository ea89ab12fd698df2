-- The later of the last link of the row's chain and of the last column that was added to its table.
use Rattle.std.proofs.Common.{◌≡◌, ap, ◌∙◌, arith}
use Rattle.rows.specs.Shape.{shape_of}
use Rattle.mvcc.specs.VersionList.{VersionList}
use Rattle.mvcc.specs.Inner.Newest.{newest_naming}
use Rattle.mvcc.proofs.Keeping.{newest-at}
use Rattle.mvcc.proofs.Newest.{newest-later}
use Rattle.mvcc.proofs.versions.Versions.newest.Goals as goal

pub returns : goal.returns
returns c =
    let inside = c.self.inside in
    let table = c.args.table in
    let row = c.args.row.0 in
    let commits = c.args.self.now.commits in
    let own : c.newest.result ≡ newest_naming table row commits =
    c.newest.ensures ∙ newest-at (shape_of inside.schema) inside.commits.items inside.chains table row c.self.invariant.kept
    ∙ ap (λ (v : VersionList). newest_naming table row v.commits) c.self.view_is in
    omega (arith, own, newest-later table row commits, c.newest_added.ensures, c.max.ensures)
