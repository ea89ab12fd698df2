-- A commit that is told is the last of what is told, and will be published or waits.
use Rattle.std.proofs.Common.{ap}
use Rattle.desk.proofs.telling.Telling.tell.Goals as goal

pub push-requires-clause-legal : goal.push-requires-clause-legal
push-requires-clause-legal g c = rw (ap (λ v. v.queued) c.self.view_is, c.requires.none) c.requires.legal
