use Rattle.service.specs.Rounds.{IsUnsent}
use Rattle.service.proofs.round.note_times.Given as goal

abbrev pub invariant-loop-index : goal.invariant-loop-index
invariant-loop-index l = IsUnsent l.fn.guests l.guests
