-- Each seq so far is there.
use Rattle.std.proofs.Common.{◌≡◌, ℕ, ◌^◌, ◌-◌, ◌<◌, ◌≤◌, true}
use Rattle.intake.specs.Known.{is_known}
use Rattle.intake.proofs.known_seqs.pass_above.Given as goal

abbrev pub invariant-loop-next : goal.invariant-loop-next
invariant-loop-next l = record {
  up : l.from ≤ l.next;
  passed : (seq : ℕ) → l.from ≤ seq → seq < l.next → is_known l.above.keys seq ≡ true;
}

abbrev pub decreases-loop-next : goal.decreases-loop-next
decreases-loop-next l = 2 ^ 64 - l.next
