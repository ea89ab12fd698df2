-- What a transaction sees of a row: the row at its snapshot, as those of its own entries that fit leave it.
use Rattle.std.proofs.Common.{◌≡◌, slice_get, Some, None, sym, ap, ◌∙◌}
use Rattle.rows.specs.Shape.{Shape, shape_of}
use Rattle.rows.specs.Tables.{shape_in, rows_of, row_at}
use Rattle.rows.specs.Commits.{tables_after}
use Rattle.mvcc.specs.Inner.OwnRows.{picked, indices_at}
use Rattle.mvcc.specs.Inner.Cells.{cell_of, cell_after, cell_walked}
use Rattle.mvcc.proofs.OwnRows.{of-picked}
use Rattle.mvcc.proofs.CellLaws.{cell-row}
use Rattle.mvcc.proofs.Walk.{cells-walked, rows-many, unlisted}
use Rattle.mvcc.proofs.transaction.Transaction.cell.Goals as goal

pub returns-in_default : goal.returns-in_default
returns-in_default c =
    let versions = c.args.versions.now in
    let inside = c.self.inside in
    let entries = inside.entries.items in
    let table = c.args.table in
    let row = c.args.row.0 in
    let tables = tables_after (shape_of versions.schema) versions.commits inside.snapshot in
    let was = row_at (rows_of tables table) row in
    let none : slice_get (shape_in tables) table ≡ None = sym c.in_default.ensures.value in
    rw (← c.self.view_is)
    (c.cell_at-was.ensures ∙ ap (cell_of c.args.column)
    (sym (c.rows_are_as_entries_leave_them.ensures.seen (shape_of versions.schema) versions.commits inside.snapshot entries table row
    ∙ unlisted (shape_in tables) table row entries was none)))

pub returns-then-self : goal.returns-then-self
returns-then-self c =
    let versions = c.args.versions.now in
    let inside = c.self.inside in
    let entries = inside.entries.items in
    let table = c.args.table in
    let row = c.args.row.0 in
    let column = c.args.column in
    let kinds = c.in-Some.kinds.now in
    let tables = tables_after (shape_of versions.schema) versions.commits inside.snapshot in
    let shape : Shape = shape_in tables in
    let was = row_at (rows_of tables table) row in
    let some : slice_get shape table ≡ Some kinds = sym c.in-Some.ensures.value in
    rw (← c.self.view_is)
    (c.cell_walked.ensures
    ∙ ap (λ own. cell_walked kinds table row column own c.cell_at-was.result) c.as_slice-entries.ensures.value
    ∙ ap (cell_walked kinds table row column entries) c.cell_at-was.ensures
    ∙ sym (cells-walked shape kinds table row column entries was some
    (rows-many tables table row kinds
    (c.rows_are_of_kinds.ensures.versions (shape_of versions.schema) versions.commits inside.snapshot) some))
    ∙ ap (cell_of column)
    (sym (c.rows_are_as_entries_leave_them.ensures.seen (shape_of versions.schema) versions.commits inside.snapshot entries table row)))

pub returns : goal.returns
returns c =
    let versions = c.args.versions.now in
    let inside = c.self.inside in
    let entries = inside.entries.items in
    let table = c.args.table in
    let row = c.args.row.0 in
    let column = c.args.column in
    let kinds = c.in-Some.kinds.now in
    let indices = indices_at inside.rows table row in
    let tables = tables_after (shape_of versions.schema) versions.commits inside.snapshot in
    let shape : Shape = shape_in tables in
    let was = row_at (rows_of tables table) row in
    let some : slice_get shape table ≡ Some kinds = sym c.in-Some.ensures.value in
    let own = c.self.invariant.1 c.if-self.false in
    rw (← c.self.view_is)
    (c.cell_after.ensures
    ∙ ap (λ own. cell_after kinds table row column (picked own c.indices-indices.result.now) c.cell_at-was.result)
    c.as_slice-entries.ensures.value
    ∙ ap (λ indices. cell_after kinds table row column (picked entries indices) c.cell_at-was.result) c.indices-indices.ensures
    ∙ ap (cell_after kinds table row column (picked entries indices)) c.cell_at-was.ensures
    ∙ sym (cell-row shape kinds table row column (picked entries indices) was (of-picked entries indices own.0) some)
    ∙ ap (cell_of column) (own.1.told table row shape was
    ∙ sym (c.rows_are_as_entries_leave_them.ensures.seen (shape_of versions.schema) versions.commits inside.snapshot entries table row)))
