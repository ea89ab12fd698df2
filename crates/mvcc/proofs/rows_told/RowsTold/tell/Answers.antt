-- The row that the entry names is told, and of any other what was told.
use Rattle.std.proofs.Common.{cond, ◌&&◌, ◌==◌, Some, sym, ap, ◌∙◌}
use Rattle.mvcc.proofs.Keys.{lookup-put, names-is, names-none}
use Rattle.mvcc.specs.Inner.RowsTold.{told_of}
use Rattle.rows.specs.Entries.{table_of}
use Rattle.rows.specs.Presence.{left_by}
use Rattle.mvcc.proofs.rows_told.RowsTold.tell.Goals as goal

pub returns-in_default : goal.returns-in_default
returns-in_default c = λ t r.
    ap (λ here. cond here (Some (left_by c.args.entry.now c.args.there)) (told_of c.args.self.now t r))
    (sym (names-none t r c.args.entry.now (sym c.in_default.ensures)))

pub returns : goal.returns
returns c =
    let entry = c.args.entry.now in
    let rows = c.self.inside.rows.entries in
    rw (← c.self.view_is) (λ t r.
    lookup-put rows c.insert.new.self.entries c.table.result c.in-Some.row.0 c.leaves_row.result c.in_ok-insert.ensures.updates.0 t r
    ∙ ap (λ table. cond ((table == t) && (c.in-Some.row.0 == r)) (Some c.leaves_row.result) (told_of rows t r)) c.table.ensures
    ∙ ap (λ there. cond ((table_of entry == t) && (c.in-Some.row.0 == r)) (Some there) (told_of rows t r)) c.leaves_row.ensures
    ∙ ap (λ here. cond here (Some (left_by entry c.args.there)) (told_of rows t r))
    (sym (names-is t r entry c.in-Some.row (sym c.in-Some.ensures))))
