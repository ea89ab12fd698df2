-- The last commit of the entry's row, or of its table.
use Rattle.std.proofs.Common.{sym, ap, ◌∙◌}
use Rattle.mvcc.specs.Newest.{newest_of, newest_in}
use Rattle.mvcc.proofs.Newest.{newest_for-row, newest_for-table}
use Rattle.mvcc.proofs.versions.Versions.newest_for.Goals as goal

pub returns-in-Some : goal.returns-in-Some
returns-in-Some c =
    let commits = c.args.self.now.commits in
    c.newest.ensures ∙ ap (λ t. newest_of t c.in-Some.row.0 commits) c.table.ensures
    ∙ sym (newest_for-row c.args.entry.now c.in-Some.row commits (sym c.in-Some.ensures))

pub returns-in-None : goal.returns-in-None
returns-in-None c =
    let commits = c.args.self.now.commits in
    c.newest_in.ensures ∙ ap (λ t. newest_in t commits) c.table-in-None.ensures
    ∙ sym (newest_for-table c.args.entry.now commits (sym c.in-None.ensures))
