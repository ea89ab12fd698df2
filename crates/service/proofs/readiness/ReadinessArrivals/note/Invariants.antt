use Rattle.service.specs.Rounds.{IsUnsent}
use Rattle.service.proofs.readiness.ReadinessArrivals.note.Given as goal

abbrev pub invariant-loop-event : goal.invariant-loop-event
invariant-loop-event l = IsUnsent l.fn.guests l.guests
