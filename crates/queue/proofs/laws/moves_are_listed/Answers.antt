use Rattle.queue.proofs.Listed.{moves_rise, put_listed, taken_once}
use Rattle.queue.proofs.laws.moves_are_listed.Goals as goal

pub returns-clause-rise : goal.returns-clause-rise
returns-clause-rise c = moves_rise

pub returns-clause-put : goal.returns-clause-put
returns-clause-put c = put_listed

pub returns-clause-taken : goal.returns-clause-taken
returns-clause-taken c = taken_once
