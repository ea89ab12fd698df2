use Rattle.std.proofs.Common.{◌≡◌, ◌⊎◌, None}
use Rattle.http_server.specs.Connection.{history}
use Rattle.service.proofs.guest.Guest.write.Given as goal

abbrev pub invariant-loop : goal.invariant-loop
invariant-loop g l =
    ((history l.self.connection).calls ≡ (history l.fn.self.connection).calls)
    × ((((history l.self.connection).sent ≡ (history l.fn.self.connection).sent) × (l.self.since ≡ l.fn.self.since))
    ⊎ (l.self.since ≡ None))
