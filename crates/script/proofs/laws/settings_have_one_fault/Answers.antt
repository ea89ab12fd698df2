-- The same of settings alone.
use Rattle.script.proofs.TextFaults.{settings-no-fault, settings-once}
use Rattle.script.proofs.laws.settings_have_one_fault.Goals as goal

pub returns-clause-none : goal.returns-clause-none
returns-clause-none c = settings-no-fault

pub returns-clause-one : goal.returns-clause-one
returns-clause-one c = settings-once
