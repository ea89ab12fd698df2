use Rattle.std.proofs.Common.{◌∙◌}
use Rattle.http_server.proofs.StreamLemmas.{Calls-then}
use Rattle.service.specs.Denials.{WithDenials}
use Rattle.service.proofs.guest.Guest.hear.Goals as goal

pub loop-preserved : goal.loop-preserved
loop-preserved g c = (
  c.hear_once.ensures.unsent ∙ c.loop.invariant.0,
  Calls-then (WithDenials g.S.Settle.answers) _ _ _ _ _ _ c.loop.invariant.1 c.hear_once.ensures.calls,
)

pub returns-in-Some-clause-calls : goal.returns-in-Some-clause-calls
returns-in-Some-clause-calls g c =
    Calls-then (WithDenials g.S.Settle.answers) _ _ _ _ _ _ c.loop.invariant.1 c.hear_once.ensures.calls
