-- The laws, for all bytes and entries.
use Rattle.rows.proofs.EntriesFilling.{found-spelled, spelled-found}
use Rattle.rows.proofs.laws.entries_are_read_as_spelled.Goals as goal

pub returns-clause-found : goal.returns-clause-found
returns-clause-found c = found-spelled

pub returns-clause-spelled : goal.returns-clause-spelled
returns-clause-spelled c = spelled-found
