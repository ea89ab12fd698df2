use Rattle.service.specs.Denials.{WithDenials}
use Rattle.service.proofs.ChainLemmas.{Leads-then}
use Rattle.service.proofs.visits.Visits.serve_from.Goals as goal

pub returns-then-not-step : goal.returns-then-not-step
returns-then-not-step g c =
    Leads-then (WithDenials g.S.Service.answers) _ _ _ c.loop.invariant (c.step.ensures.0, c.step.ensures.2)

pub returns-then-not-wants_write : goal.returns-then-not-wants_write
returns-then-not-wants_write g c =
    Leads-then (WithDenials g.S.Service.answers) _ _ _ c.loop.invariant (c.step.ensures.0, c.step.ensures.2)

pub loop-preserved : goal.loop-preserved
loop-preserved g c =
    Leads-then (WithDenials g.S.Service.answers) _ _ _ c.loop.invariant (c.step.ensures.0, c.step.ensures.2)
