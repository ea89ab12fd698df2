-- How far the part has come.
use Rattle.std.proofs.Common.{◌≡◌, ◌+◌, length, vec_capacity}
use Rattle.intake.specs.Kept.{AreAllKept}
use Rattle.ordering.specs.Merging.{HoldFirst, frames_in}
use Rattle.ordering.proofs.merging.next_commits.Given as goal

abbrev pub invariant-loop-before : goal.invariant-loop-before
invariant-loop-before l = record {
  counted : l.from + length l.part.items ≡ l.before;
  kept : AreAllKept l.intake l.at l.high;
  held : HoldFirst l.from l.part.items (frames_in l.intake l.fn.at l.high) (frames_in l.intake l.at l.high);
  capacity : vec_capacity l.part ≡ vec_capacity l.fn.part;
}
