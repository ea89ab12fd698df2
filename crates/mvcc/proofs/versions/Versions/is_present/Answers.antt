-- The row is there where its chain has bytes at the version.
use Rattle.std.proofs.Common.{take, sym, ap, ◌∙◌}
use Rattle.std.specs.Option.{is_some}
use Rattle.rows.specs.Shape.{shape_of}
use Rattle.rows.specs.Tables.{kinds_of}
use Rattle.rows.specs.Commits.{tables_after}
use Rattle.rows.specs.Values.{values_of}
use Rattle.mvcc.specs.Inner.Chains.{bytes_at, links_at}
use Rattle.mvcc.specs.Inner.RowBytes.{wide, blank_in, blank_after_commits}
use Rattle.mvcc.proofs.Keeping.{sorted-at, row-kept, is_some-map}
use Rattle.mvcc.proofs.versions.Versions.is_present.Goals as goal

pub bytes_at-requires : goal.bytes_at-requires
bytes_at-requires c =
    let inside = c.self.inside in
    sorted-at (shape_of inside.schema) inside.commits.items inside.chains c.args.table c.args.row.0 c.self.invariant.kept

pub returns : goal.returns
returns c =
    let inside = c.self.inside in
    let shape = shape_of inside.schema in
    let table = c.args.table in
    let bytes = bytes_at c.args.version (links_at inside.chains table c.args.row.0) in
    let kept = row-kept c.rows_have_their_bytes.ensures shape inside.commits.items inside.chains c.args.version table c.args.row.0
    c.self.invariant.legal c.self.invariant.valued c.self.invariant.kept in
    rw (← c.self.view_is)
    (c.is_some.ensures ∙ sym (is_some-map _ c.bytes_at.result) ∙ ap is_some c.bytes_at.ensures
    ∙ sym (is_some-map (λ row. values_of (kinds_of (tables_after shape inside.commits.items c.args.version) table)
    (wide (blank_after_commits table (blank_in shape table) (take c.args.version inside.commits.items)) row)) bytes)
    ∙ ap is_some (sym kept.told))
