-- The frames that are left are kept, and the list is empty again.
use Rattle.std.proofs.Common.{◌≡◌, ◌-◌, ◌<◌, ◌≤◌, [], vec_capacity}
use Rattle.intake.specs.Kept.{AreAllKept}
use Rattle.scenarios_frames.proofs.merges.merge_in_parts.Given as goal

abbrev pub invariant-parts : goal.invariant-parts
invariant-parts l = record {
  kept : AreAllKept l.intake l.at l.high;
  versions : l.before ≤ l.to;
  empty : l.part.items ≡ [];
  room : 0 < vec_capacity l.part;
}

abbrev pub decreases-parts : goal.decreases-parts
decreases-parts l = l.to - l.before
