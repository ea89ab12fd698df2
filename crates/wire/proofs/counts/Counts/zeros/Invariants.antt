-- So many counts so far, each 0.
use Rattle.std.proofs.Common.{◌≡◌, ◌≤◌, replicate}
use Rattle.wire.proofs.counts.Counts.zeros.Given as goal

abbrev pub invariant-loop : goal.invariant-loop
invariant-loop l = record { zeros : l.counts ≡ replicate l.counter 0; within : l.counter ≤ l.workers }
