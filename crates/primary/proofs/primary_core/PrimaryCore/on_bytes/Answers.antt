-- What is sent of the lists.
use Rattle.primary.proofs.primary_core.PrimaryCore.on_bytes.Goals as goal

pub returns-clause-err : goal.returns-clause-err
returns-clause-err g c = rw (← c.self.view_is) c.on_bytes.ensures.err

pub returns-clause-ok : goal.returns-clause-ok
returns-clause-ok g c = rw (← c.self.view_is) c.on_bytes.ensures.ok
