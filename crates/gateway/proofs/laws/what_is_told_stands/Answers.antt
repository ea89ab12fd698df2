-- The law, for all calls of a round.
use Rattle.gateway.proofs.Standing.{told-stands}
use Rattle.gateway.proofs.laws.what_is_told_stands.Goals as goal

pub returns : goal.returns
returns c = told-stands
