-- The laws, for all texts.
use Rattle.journal.proofs.Texts.{text-grows, start-marks, started-goes_on}
use Rattle.journal.proofs.laws.texts_grow.Goals as goal

pub returns-clause-grows : goal.returns-clause-grows
returns-clause-grows c = text-grows

pub returns-clause-marks : goal.returns-clause-marks
returns-clause-marks c = start-marks

pub returns-clause-goes_on : goal.returns-clause-goes_on
returns-clause-goes_on c = started-goes_on
