-- What is sent is on the base of the core.
use Rattle.shared.proofs.Bases.{both}
use Rattle.shared.proofs.line.Line.on_bytes.Goals as goal

pub returns-clause-ok : goal.returns-clause-ok
returns-clause-ok g c =
    both _ _ _ c.on_bytes.result (λ sent is base. (c.on_bytes.new.self.core.primary.base, base, is.1)) c.on_bytes.ensures.ok
    c.on_bytes.ensures.base
