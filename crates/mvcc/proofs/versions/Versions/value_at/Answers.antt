-- The value of the column in the bytes of the row's chain at the version is that of the row there.
use Rattle.std.proofs.Common.{◌<◌, length, slice_get, sym, subst, ap, ◌∙◌, arith}
use Rattle.rows.specs.Shape.{shape_of, AreTables}
use Rattle.rows.specs.Values.{values_of}
use Rattle.mvcc.specs.VersionList.{VersionList}
use Rattle.mvcc.specs.Inner.Chains.{AreVersions}
use Rattle.mvcc.specs.Inner.RowBytes.{wide}
use Rattle.mvcc.proofs.Keeping.{sorted-at, value-unknown, value-absent, value-there, wide-there, narrow-there, table-there, blank-narrow}
use Rattle.mvcc.proofs.versions.Versions.value_at.Goals as goal
use Rattle.mvcc.proofs.versions.Versions.value_at.Goals.{After-bytes_at, In_ok-kinds}

pub bytes_at-requires : goal.bytes_at-requires
bytes_at-requires c =
    let inside = c.self.inside in
    sorted-at (shape_of inside.schema) inside.commits.items inside.chains c.args.table c.args.row.0 c.self.invariant.kept

sound : (c : After-bytes_at)
    → AreVersions (shape_of c.args.self.now.schema) c.args.self.now.commits c.self.inside.chains c.self.inside.columns c.self.inside.last
sound c =
    subst (λ (v : VersionList). AreVersions (shape_of v.schema) v.commits c.self.inside.chains c.self.inside.columns c.self.inside.last)
    c.self.view_is c.self.invariant

pub returns-in_err-kinds : goal.returns-in_err-kinds
returns-in_err-kinds c =
    let inside = c.self.inside in
    let versions = c.args.self.now in
    c.from_residual-in_err-kinds.ensures
    ∙ sym (value-unknown c.rows_have_their_bytes.ensures c.columns_are_of_their_width.ensures.value (shape_of versions.schema)
    versions.commits inside.chains inside.columns inside.last c.args.version c.args.table c.args.row.0 c.args.column
    (sound (goal.at.returns-in_err-kinds c).After-bytes_at) (sym c.in_err-kinds.ensures.value))

pub returns-in_err-bytes : goal.returns-in_err-bytes
returns-in_err-bytes c =
    let inside = c.self.inside in
    let versions = c.args.self.now in
    c.from_residual.ensures
    ∙ sym (value-absent c.rows_have_their_bytes.ensures c.columns_are_of_their_width.ensures.value (shape_of versions.schema)
    versions.commits inside.chains inside.columns inside.last c.args.version c.args.table c.args.row.0 c.args.column
    (sound (goal.at.returns-in_err-bytes c).After-bytes_at) c.in_err-bytes.ensures)

-- the table is there
there : (c : In_ok-kinds) → c.args.table < length (shape_of c.args.self.now.schema)
there c =
    let inside = c.self.inside in
    let versions = c.args.self.now in
    table-there c.commits_are_defined_one_by_one.ensures.fits c.changes_tell_kinds.ensures.versions (shape_of versions.schema)
    versions.commits inside.chains inside.columns inside.last c.args.version c.args.table c.in_ok-kinds.kinds.now
    (sound (goal.at.In_ok-kinds c).After-bytes_at) c.in_ok-kinds.ensures.value

pub value_in_wide-requires-clause-wide : goal.value_in_wide-requires-clause-wide
value_in_wide-requires-clause-wide c =
    let inside = c.self.inside in
    let versions = c.args.self.now in
    let within = there (goal.at.value_in_wide-requires-clause-wide c).In_ok-kinds in
    rw c.blank.ensures
    (wide-there c.rows_have_their_bytes.ensures c.columns_are_of_their_width.ensures.value (shape_of versions.schema) versions.commits
    inside.chains inside.columns inside.last c.args.version c.args.table c.args.row.0 c.args.column
    (sound (goal.at.value_in_wide-requires-clause-wide c).After-bytes_at) c.in_ok-kinds.kinds.now c.in_ok-bytes.bytes.now
    c.in_ok-kinds.ensures.value c.in_ok-bytes.ensures within)

pub value_in_wide-requires-clause-narrow : goal.value_in_wide-requires-clause-narrow
value_in_wide-requires-clause-narrow c =
    let inside = c.self.inside in
    let versions = c.args.self.now in
    let shape = shape_of versions.schema in
    let within = there (goal.at.value_in_wide-requires-clause-narrow c).In_ok-kinds in
    let are = sound (goal.at.value_in_wide-requires-clause-narrow c).After-bytes_at in
    let limits : AreTables shape =
    subst (λ (v : VersionList). AreTables (shape_of v.schema)) c.self.view_is c.keeps_limits.ensures in
    rw c.blank.ensures
    (omega (
      arith,
      narrow-there c.rows_have_their_bytes.ensures c.columns_are_of_their_width.ensures.value shape versions.commits inside.chains
          inside.columns inside.last c.args.version c.args.table c.args.row.0 c.args.column are c.in_ok-kinds.kinds.now
          c.in_ok-bytes.bytes.now c.in_ok-kinds.ensures.value c.in_ok-bytes.ensures within,
      blank-narrow c.rows_have_their_bytes.ensures c.commits_are_defined_one_by_one.ensures.fits c.changes_tell_kinds.ensures.versions
          c.changes_tell_kinds.ensures.limits shape versions.commits inside.chains inside.columns inside.last c.args.table are limits
          within,
    ))

pub returns : goal.returns
returns c =
    let inside = c.self.inside in
    let versions = c.args.self.now in
    let within = there (goal.at.returns c).In_ok-kinds in
    c.value_in_wide.ensures
    ∙ ap (λ blank. slice_get (values_of c.in_ok-kinds.kinds.now (wide blank c.in_ok-bytes.bytes.now)) c.args.column) c.blank.ensures
    ∙ sym (value-there c.rows_have_their_bytes.ensures c.columns_are_of_their_width.ensures.value (shape_of versions.schema)
    versions.commits inside.chains inside.columns inside.last c.args.version c.args.table c.args.row.0 c.args.column
    (sound (goal.at.returns c).After-bytes_at) c.in_ok-kinds.kinds.now c.in_ok-bytes.bytes.now c.in_ok-kinds.ensures.value
    c.in_ok-bytes.ensures within)
