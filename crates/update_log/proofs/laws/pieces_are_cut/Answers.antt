-- The laws, for all entries.
use Rattle.update_log.proofs.Pieces.{pieces-cut, pieces-unique, pieces-some}
use Rattle.update_log.proofs.laws.pieces_are_cut.Goals as goal

pub returns-clause-cut : goal.returns-clause-cut
returns-clause-cut c = pieces-cut

pub returns-clause-only : goal.returns-clause-only
returns-clause-only c = pieces-unique

pub returns-clause-some : goal.returns-clause-some
returns-clause-some c = pieces-some
