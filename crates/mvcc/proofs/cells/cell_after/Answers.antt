-- One index on: where there is an entry, what it makes of the column.
use Rattle.std.proofs.Common.{◌≡◌, length, get_or, slice_get, Some, None, refl, sym, ap, ◌∙◌}
use Rattle.std.proofs.lemmas.Bool.{ltb-true, ltb-false}
use Rattle.std.proofs.lemmas.Option.{slice_get_read, slice_get_past}
use Rattle.mvcc.specs.Inner.OwnRows.{picked}
use Rattle.mvcc.specs.Inner.Cells.{cell_after}
use Rattle.mvcc.proofs.CellLaws.{cell_after-some, cell_after-none}
use Rattle.mvcc.proofs.cells.cell_after.Goals as goal
use Rattle.mvcc.proofs.cells.cell_after.Goals.{in-Some, in_default}

pub loop-index-preserved : goal.loop-index-preserved
loop-index-preserved c =
    let kinds = c.args.kinds.now in
    let entries = c.args.entries.now in
    let indices = c.args.indices.now in
    let i = c.loop-index.index-index in
    let cell = c.loop-index.cell in
    elim c.match-get.branch [
      | in-Some w ↦
          let found = w.in-Some.entry.now in
          let some : slice_get entries (get_or indices i 0) ≡ Some found =
          slice_get_read entries (length entries) (get_or indices i 0) found refl
          (ltb-true _ _ (sym w.in-Some.ensures.lookup.0)) w.in-Some.ensures.lookup.1 in
          ap (cell_after kinds c.args.table c.args.row.0 c.args.column (picked entries _)) (w.cell-is ∙ w.cell_after_entry-cell.ensures)
          ∙ sym (cell_after-some kinds c.args.table c.args.row.0 c.args.column entries indices i found cell c.loop-index-test.true some)
          ∙ c.loop-index.invariant
      | in_default w ↦
          let none : slice_get entries (get_or indices i 0) ≡ None =
          slice_get_past entries (get_or indices i 0) (ltb-false _ _ (sym w.in_default.ensures.lookup.0)) in
          ap (cell_after kinds c.args.table c.args.row.0 c.args.column (picked entries _)) w.cell-is
          ∙ sym (cell_after-none kinds c.args.table c.args.row.0 c.args.column entries indices i cell c.loop-index-test.true none)
          ∙ c.loop-index.invariant
    ]
