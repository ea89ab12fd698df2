use Rattle.http_server.proofs.StreamLemmas.{Calls-then}
use Rattle.service.specs.Denials.{WithDenials}
use Rattle.service.proofs.ChainLemmas.{Calls-standing}
use Rattle.service.proofs.visits.Visits.hear.Goals as goal

pub returns-then-wants_write : goal.returns-then-wants_write
returns-then-wants_write g c = Calls-standing g.S.Service.answers _ _ _ _ c.advance.ensures.calls

pub returns : goal.returns
returns g c =
    Calls-standing g.S.Service.answers _ _ _ _
    (Calls-then (WithDenials (λ old request response new. g.S.Service.answers old.inner request response new.inner)) _ _ _ _ _ _
    c.advance.ensures.calls c.hear_once.ensures.calls)
