-- The kinds at the snapshot, and those of the columns that the transaction has added.
use Rattle.std.proofs.Common.{Some, slice_get, ap, sym, ◌∙◌}
use Rattle.std.specs.Option.{option_map}
use Rattle.rows.specs.Shape.{shape_of}
use Rattle.rows.specs.Tables.{shape_in}
use Rattle.rows.specs.Commits.{tables_after}
use Rattle.mvcc.specs.Inner.Columns.{kinds_after}
use Rattle.mvcc.proofs.KindsUpto.{after-entries}
use Rattle.mvcc.proofs.Seen.{seen-shape}
use Rattle.mvcc.proofs.transaction.Transaction.kinds.Goals as goal

pub returns-then-self-clause-value : goal.returns-then-self-clause-value
returns-then-self-clause-value c =
    let versions = c.args.versions.now in
    let inside = c.self.inside in
    let table = c.args.table in
    let entries = inside.entries.items in
    let tables = tables_after (shape_of versions.schema) versions.commits inside.snapshot in
    rw (← c.self.view_is)
    (ap Some (c.kinds_behind.ensures.kinds ∙ ap (kinds_after table c.in_ok-kinds.kinds.now) c.as_slice.ensures.value)
    ∙ ap (option_map (λ kinds. kinds_after table kinds entries)) c.in_ok-kinds.ensures.value
    ∙ sym (after-entries (shape_in tables) table entries)
    ∙ ap (λ shape. slice_get shape table) (sym (c.changes_tell_kinds.ensures.applied tables entries)))

pub returns-else-self-clause-value : goal.returns-else-self-clause-value
returns-else-self-clause-value c =
    let versions = c.args.versions.now in
    let inside = c.self.inside in
    rw (← c.self.view_is)
    (ap Some c.of.ensures ∙ c.in_ok-kinds.ensures.value
    ∙ ap (λ shape. slice_get shape c.args.table)
    (sym (seen-shape c.changes_tell_kinds.ensures.applied (shape_of versions.schema) versions.commits
    (record { snapshot = inside.snapshot; entries = inside.entries.items }) (c.self.invariant.1 c.if-self.false).0)))
