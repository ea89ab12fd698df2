-- Each column that the plan names is there, of the same kind.
use Rattle.queries.proofs.Widening.{still-fits}
use Rattle.queries.proofs.laws.plans_still_fit.Goals as goal

pub returns : goal.returns
returns c = still-fits
