-- The laws, for all arrivals.
use Rattle.intake.proofs.Missing.{first-least, lacking-least}
use Rattle.intake.proofs.laws.first_missing_is_least.Goals as goal

pub returns-clause-first : goal.returns-clause-first
returns-clause-first c = first-least

pub returns-clause-lacking : goal.returns-clause-lacking
returns-clause-lacking c = lacking-least
