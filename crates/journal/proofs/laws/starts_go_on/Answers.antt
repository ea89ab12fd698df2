-- Both laws, for all journals.
use Rattle.journal.proofs.Starts.{starts-again, header-again}
use Rattle.journal.proofs.laws.starts_go_on.Goals as goal

pub returns-clause-again : goal.returns-clause-again
returns-clause-again c = starts-again c.entries_are_read_as_spelled.ensures.spelled

pub returns-clause-header : goal.returns-clause-header
returns-clause-header c = header-again c.entries_are_read_as_spelled.ensures.spelled
