-- The laws, for all bytes.
use Rattle.rows.proofs.Bytes.{cut, number_fits}
use Rattle.rows.proofs.laws.numbers_are_read_as_spelled.Goals as goal

pub returns-clause-spelled : goal.returns-clause-spelled
returns-clause-spelled c = cut

pub returns-clause-below : goal.returns-clause-below
returns-clause-below c = number_fits
