-- The kinds behind those of the opening.
use Rattle.std.proofs.Common.{◌≡◌, None, Some, length, slice_get, true, subst, ap, arith, length-append}
use Rattle.std.specs.Result.{is_ok}
use Rattle.rows.specs.Commits.{apply_commits}
use Rattle.rows.specs.Shape.{shape_of}
use Rattle.rows.specs.Tables.{opening, shape_in}
use Rattle.mvcc.specs.VersionList.{VersionList, tables_at}
use Rattle.mvcc.proofs.TableImages.{kinds-opened, not-opened, none-added}
use Rattle.mvcc.proofs.versions.Versions.added_at.Goals as goal
use Rattle.mvcc.proofs.versions.Versions.added_at.Goals.{After-kinds}

legal : (c : After-kinds) → is_ok (apply_commits (opening (shape_of c.args.self.now.schema)) c.args.self.now.commits) ≡ true
legal c =
    subst (λ (v : VersionList). is_ok (apply_commits (opening (shape_of v.schema)) v.commits) ≡ true) c.self.view_is c.self.invariant.legal

pub returns-in_default-clause-value : goal.returns-in_default-clause-value
returns-in_default-clause-value c =
    let versions = c.args.self.now in
    let shape = shape_of versions.schema in
    let table = c.args.table in
    let none : None ≡ slice_get shape table =
    subst (λ (v : VersionList). None ≡ slice_get (shape_of v.schema) table) c.self.view_is c.in_default.ensures.value in
    none-added shape (shape_in (tables_at versions c.args.version)) table
    (not-opened c.commits_are_defined_one_by_one.ensures.fits c.changes_tell_kinds.ensures.versions shape versions.commits c.args.version
    table (legal (goal.at.returns-in_default-clause-value c).After-kinds) none)

pub split_at-requires : goal.split_at-requires
split_at-requires c =
    let versions = c.args.self.now in
    let shape = shape_of versions.schema in
    let table = c.args.table in
    let opened = c.in-Some.opened.now in
    let begun : Some opened ≡ slice_get shape table =
    subst (λ (v : VersionList). Some opened ≡ slice_get (shape_of v.schema) table) c.self.view_is c.in-Some.ensures.value in
    let behind =
    kinds-opened c.commits_are_defined_one_by_one.ensures.fits c.changes_tell_kinds.ensures.versions shape versions.commits c.args.version
    table opened c.in-Some-kinds_at.kinds.now (legal (goal.at.split_at-requires c).After-kinds) begun
    c.in-Some-kinds_at.ensures.value in
    omega (arith, ap length behind.1, length-append opened behind.0)
