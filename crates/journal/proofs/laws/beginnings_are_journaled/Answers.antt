-- Both laws, for all lists of commits.
use Rattle.journal.proofs.Journaled.{is_journaled-empty, is_journaled-beginning}
use Rattle.journal.proofs.laws.beginnings_are_journaled.Goals as goal

pub returns-clause-empty : goal.returns-clause-empty
returns-clause-empty c = is_journaled-empty

pub returns-clause-beginning : goal.returns-clause-beginning
returns-clause-beginning c = is_journaled-beginning
