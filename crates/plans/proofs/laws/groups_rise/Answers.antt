-- Groups are put in order one by one.
use Rattle.plans.proofs.Rising.{rising-sorted, rising-stay}
use Rattle.plans.proofs.laws.groups_rise.Goals as goal

pub returns-clause-rise : goal.returns-clause-rise
returns-clause-rise c = rising-sorted

pub returns-clause-stay : goal.returns-clause-stay
returns-clause-stay c = rising-stay
