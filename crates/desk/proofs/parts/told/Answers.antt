-- Nothing is told or shown yet.
use Rattle.std.proofs.Common.{refl}
use Rattle.desk.proofs.parts.told.Goals as goal

pub publish-requires-clause-begins : goal.publish-requires-clause-begins
publish-requires-clause-begins g c = rw c.in-Ok.ensures.0 (_, refl)
