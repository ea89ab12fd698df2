-- Those from the base on are still there.
use Rattle.std.proofs.Common.{◌≡◌, length}
use Rattle.intake.specs.Inner.Held.{seqs_from}
use Rattle.intake.proofs.known_seqs.drop_under.Given as goal

abbrev pub invariant-loop-above : goal.invariant-loop-above
invariant-loop-above l = seqs_from l.base l.above.keys ≡ seqs_from l.base l.initial.above.keys

abbrev pub decreases-loop-above : goal.decreases-loop-above
decreases-loop-above l = length l.above.keys
