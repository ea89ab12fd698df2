-- One entry more.
use Rattle.std.proofs.Common.{sym, ap, ◌∙◌}
use Rattle.rows.specs.Presence.{is_there_after_one}
use Rattle.rows.proofs.TableLaws.{is_there_after-more}
use Rattle.rows.proofs.row_presence.is_there_after.Goals as goal

pub loop-entry-preserved : goal.loop-entry-preserved
loop-entry-preserved c =
    let entry = c.entry-item.result in
    c.is_there_after_one-there.ensures
    ∙ ap (is_there_after_one c.args.table c.args.row.0 entry) c.loop-entry.invariant
    ∙ sym (is_there_after-more c.args.table c.args.row.0 c.args.entries.now c.loop-entry.entry-index entry c.args.was c.loop-entry-test.true
    c.entry-item.is)
