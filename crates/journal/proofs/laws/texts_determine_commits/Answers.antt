-- The two laws, for all lists of commits.
use Rattle.journal.proofs.Nesting.{is_one_to_one, is_nested}
use Rattle.journal.proofs.laws.texts_determine_commits.Goals as goal

pub returns-clause-one_to_one : goal.returns-clause-one_to_one
returns-clause-one_to_one c = is_one_to_one c.entries_are_read_as_spelled.ensures.spelled

pub returns-clause-nested : goal.returns-clause-nested
returns-clause-nested c = is_nested c.entries_are_read_as_spelled.ensures.spelled
