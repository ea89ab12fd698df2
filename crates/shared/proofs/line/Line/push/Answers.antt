-- What is sent is on the base of the core.
use Rattle.shared.proofs.Bases.{both}
use Rattle.shared.proofs.line.Line.push.Goals as goal

pub returns-clause-ok : goal.returns-clause-ok
returns-clause-ok g c =
    both _ _ _ c.push.result (λ sent is base. (c.push.new.self.core.primary.base, base, is.1)) c.push.ensures.ok c.push.ensures.base
