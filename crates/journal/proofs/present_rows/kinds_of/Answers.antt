-- The kinds of the next table stand behind those before it.
use Rattle.std.proofs.Common.{sym}
use Rattle.rows.specs.Shape.{shape_of}
use Rattle.journal.proofs.Presence.{kinds-more}
use Rattle.journal.proofs.present_rows.kinds_of.Goals as goal

pub loop-table-preserved : goal.loop-table-preserved
loop-table-preserved c =
    rw (c.in_ok-push.ensures.items, c.loop-table.invariant, c.in_ok-from_slice.ensures)
    (sym (kinds-more (shape_of c.args.schema.now) c.loop-table.table c.in-Some.columns.now c.in-Some.ensures.value))
