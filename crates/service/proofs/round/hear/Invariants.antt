use Rattle.std.proofs.Common.{◌≡◌, IsFalse}
use Rattle.service.specs.Denials.{WithDenials}
use Rattle.service.specs.Rounds.{Leads, IsUnsent}
use Rattle.service.proofs.round.hear.Given as goal

abbrev pub invariant-loop : goal.invariant-loop
invariant-loop g l =
    Leads (WithDenials g.S.Settle.answers) l.fn.service.inner l.service.inner
    × IsUnsent l.fn.guests l.guests
    × (IsFalse l.is_any → l.service.inner ≡ l.fn.service.inner)
