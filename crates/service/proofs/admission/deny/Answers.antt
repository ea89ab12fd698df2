use Rattle.service.proofs.admission.deny.Goals as goal

pub returns-in-Target : goal.returns-in-Target
returns-in-Target c = rw c.in-Target.is c.deny_target.ensures

pub returns-in-Host : goal.returns-in-Host
returns-in-Host c = rw c.in-Host.is c.deny_host.ensures

pub returns-in-Origin : goal.returns-in-Origin
returns-in-Origin c = rw c.in-Origin.is c.deny_origin.ensures
