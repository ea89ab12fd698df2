-- The laws, for all rows.
use Rattle.rows.proofs.RowLaws.{row-at, row-seen}
use Rattle.rows.proofs.laws.rows_are_as_entries_leave_them.Goals as goal

pub returns-clause-left : goal.returns-clause-left
returns-clause-left c = row-at

pub returns-clause-seen : goal.returns-clause-seen
returns-clause-seen c = row-seen
