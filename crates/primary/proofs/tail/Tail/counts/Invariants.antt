-- The counts of the workers so far.
use Rattle.std.proofs.Common.{◌≡◌, List, length}
use Rattle.rows.specs.declared.commit.Commit.{Commit}
use Rattle.primary.specs.Inner.Tail.{IsTailOf}
use Rattle.primary.specs.Journaling.{AreNumbered}
use Rattle.primary.specs.Sending.{counts_of}
use Rattle.primary.proofs.tail.Tail.counts.Given as goal

abbrev pub invariant-loop-worker : goal.invariant-loop-worker
invariant-loop-worker l = record {
  counted : (commits : List Commit) → IsTailOf l.self commits → AreNumbered commits → l.counts ≡ counts_of commits l.version l.worker;
  few : length l.counts ≡ l.worker;
}
