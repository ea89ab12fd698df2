-- The law, for all commits.
use Rattle.update_log.proofs.Shifting.{stream-goes_on}
use Rattle.update_log.proofs.laws.streams_go_on.Goals as goal

pub returns : goal.returns
returns c = stream-goes_on
