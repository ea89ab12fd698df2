-- The seq and those above it so far are the known seqs; none of the latter is below it.
use Rattle.std.proofs.Common.{◌≡◌, ◌^◌, ◌-◌, length}
use Rattle.intake.specs.Inner.Held.{seqs_in, AreAtLeast, AreBelow}
use Rattle.intake.proofs.known_seqs.pass_known.Given as goal

abbrev pub invariant-loop-above : goal.invariant-loop-above
invariant-loop-above l = record {
  same : seqs_in l.missing l.above.keys ≡ seqs_in l.from l.initial.above.keys;
  from : AreAtLeast l.missing l.above.keys;
  below : AreBelow (2 ^ 64 - 1) l.above.keys;
}

abbrev pub decreases-loop-above : goal.decreases-loop-above
decreases-loop-above l = length l.above.keys
