use Rattle.std.proofs.Common.{◌≡◌}
use Rattle.http_server.specs.Connection.{history}
use Rattle.http_server.specs.Exchange.{Calls}
use Rattle.service.specs.Denials.{WithDenials}
use Rattle.service.proofs.guest.Guest.hear.Given as goal

abbrev pub invariant-loop : goal.invariant-loop
invariant-loop g l =
    ((history l.self.connection).sent ≡ (history l.fn.self.connection).sent)
    × Calls (WithDenials g.S.Settle.answers) l.fn.service.inner l.service.inner (history l.fn.self.connection).calls
    (history l.self.connection).calls
