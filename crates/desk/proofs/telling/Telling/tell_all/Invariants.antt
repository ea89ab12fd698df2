-- The first so many commits are told, and all of these will be published.
use Rattle.std.proofs.Common.{◌≡◌, ◌≤◌, take, length}
use Rattle.desk.proofs.telling.Telling.tell_all.Given as goal

abbrev pub invariant-loop-index : goal.invariant-loop-index
invariant-loop-index g l =
    (l.self.all ≡ take l.index l.durable) × (l.self.queued ≡ l.self.all) × (l.self.shown ≡ l.initial.self.shown)
    × (l.index ≤ length l.durable) × (length l.initial.self.all ≤ l.index)
