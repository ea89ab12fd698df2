use Rattle.std.proofs.Common.{◌≡◌}
use Rattle.service.specs.Houses.{served_by}
use Rattle.service.proofs.house.House.accept.Given as goal

abbrev pub invariant-loop : goal.invariant-loop
invariant-loop g l = served_by l.self ≡ served_by l.fn.self
