-- The first of the kinds that are kept of the table.
use Rattle.std.proofs.Common.{◌≡◌, ◌+◌, ℕ, Some, length, sym, subst, ap, ◌∙◌}
use Rattle.std.specs.Option.{option_map}
use Rattle.std.specs.List.Sorted.{IsNonDecreasingBy}
use Rattle.rows.specs.Shape.{shape_of}
use Rattle.mvcc.specs.Inner.Columns.{TableColumns, kinds_upto}
use Rattle.mvcc.proofs.KindsUpto.{kinds-kept, bounds-at, columns-there, numbers-sorted, columns-whole}
use Rattle.mvcc.proofs.versions.Versions.kinds_at.Goals as goal

pub kinds_at-requires-clause-rise : goal.kinds_at-requires-clause-rise
kinds_at-requires-clause-rise c =
    let inside = c.self.inside in
    let table = c.args.table in
    let there =
    columns-there (shape_of inside.schema) inside.commits.items table c.in_ok-columns.columns.now
    (c.in_ok-columns.ensures ∙ c.self.invariant.columns table) in
    subst (λ (columns : TableColumns). IsNonDecreasingBy (λ (n : ℕ). n) columns.numbers) (sym there.1)
    (numbers-sorted table 0 inside.commits.items)

pub kinds_at-requires-clause-whole : goal.kinds_at-requires-clause-whole
kinds_at-requires-clause-whole c =
    let inside = c.self.inside in
    let table = c.args.table in
    let there =
    columns-there (shape_of inside.schema) inside.commits.items table c.in_ok-columns.columns.now
    (c.in_ok-columns.ensures ∙ c.self.invariant.columns table) in
    subst (λ (columns : TableColumns). columns.opening + length columns.numbers ≡ length columns.kinds) (sym there.1)
    (columns-whole table inside.commits.items there.0)

pub returns-clause-value : goal.returns-clause-value
returns-clause-value c =
    let inside = c.self.inside in
    rw (← c.self.view_is)
    (ap Some c.kinds_at.ensures ∙ ap (option_map (kinds_upto c.args.version)) c.in_ok-columns.ensures
    ∙ kinds-kept c.commits_are_defined_one_by_one.ensures.fits c.changes_tell_kinds.ensures.versions (shape_of inside.schema)
    inside.commits.items inside.columns c.args.version c.args.table c.self.invariant.legal c.self.invariant.columns)

pub returns-clause-bounds : goal.returns-clause-bounds
returns-clause-bounds c =
    let inside = c.self.inside in
    bounds-at c.changes_tell_kinds.ensures.versions c.changes_tell_kinds.ensures.limits (shape_of inside.schema) inside.commits.items
    c.args.version c.args.table c.kinds_at.result.now c.self.invariant.legal c.keeps_limits.ensures
    (sym (ap Some c.kinds_at.ensures ∙ ap (option_map (kinds_upto c.args.version)) c.in_ok-columns.ensures
    ∙ kinds-kept c.commits_are_defined_one_by_one.ensures.fits c.changes_tell_kinds.ensures.versions (shape_of inside.schema)
    inside.commits.items inside.columns c.args.version c.args.table c.self.invariant.legal c.self.invariant.columns))

pub returns-in_err-columns-clause-value : goal.returns-in_err-columns-clause-value
returns-in_err-columns-clause-value c =
    let inside = c.self.inside in
    rw (← c.self.view_is)
    (ap (option_map _) c.from_residual.ensures ∙ ap (option_map (kinds_upto c.args.version)) c.in_err-columns.ensures
    ∙ kinds-kept c.commits_are_defined_one_by_one.ensures.fits c.changes_tell_kinds.ensures.versions (shape_of inside.schema)
    inside.commits.items inside.columns c.args.version c.args.table c.self.invariant.legal c.self.invariant.columns)
