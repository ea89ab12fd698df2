use Rattle.std.proofs.Common.{◌≡◌}
use Rattle.http_server.specs.Connection.{history}
use Rattle.service.proofs.guest.Guest.drain.Given as goal

abbrev pub invariant-loop : goal.invariant-loop
invariant-loop g l = history l.self.connection ≡ history l.fn.self.connection
