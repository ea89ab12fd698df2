-- The laws, for all tables.
use Rattle.rows.proofs.ValueKinds.{entry-rows, commits-rows, versions-rows}
use Rattle.rows.proofs.laws.rows_are_of_kinds.Goals as goal

pub returns-clause-entry : goal.returns-clause-entry
returns-clause-entry c = entry-rows

pub returns-clause-commits : goal.returns-clause-commits
returns-clause-commits c = commits-rows

pub returns-clause-versions : goal.returns-clause-versions
returns-clause-versions c = versions-rows
