-- Kinds come behind others alone.
use Rattle.store.proofs.Beginnings.{opening-begins, entry-keeps, commits-keep}
use Rattle.store.proofs.laws.first_columns_stay.Goals as goal

pub returns-clause-opening : goal.returns-clause-opening
returns-clause-opening c = opening-begins

pub returns-clause-entry : goal.returns-clause-entry
returns-clause-entry c =
    let laws = c.changes_tell_kinds.ensures in
    entry-keeps laws.columns laws.tables laws.entry

pub returns-clause-commits : goal.returns-clause-commits
returns-clause-commits c =
    let laws = c.changes_tell_kinds.ensures in
    commits-keep laws.columns laws.tables laws.commits
