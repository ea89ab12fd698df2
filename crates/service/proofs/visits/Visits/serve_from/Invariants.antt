use Rattle.service.specs.Denials.{WithDenials}
use Rattle.service.specs.Rounds.{Leads}
use Rattle.service.specs.Places.{visited_of}
use Rattle.service.proofs.visits.Visits.serve_from.Given as goal

abbrev pub invariant-loop : goal.invariant-loop
invariant-loop g l = Leads (WithDenials g.S.Service.answers) (visited_of l.fn.self) (visited_of l.self)
