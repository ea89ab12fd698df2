-- A line that was read has no fault, and settings and events are read of lines in one way.
use Rattle.script.proofs.TextFaults.{script-faultless, text-once}
use Rattle.script.proofs.laws.texts_have_one_fault.Goals as goal

pub returns-clause-none : goal.returns-clause-none
returns-clause-none c = script-faultless

pub returns-clause-one : goal.returns-clause-one
returns-clause-one c = text-once
