-- The counts before the index have been copied.
use Rattle.std.proofs.Common.{◌≡◌, ◌≤◌, length, take}
use Rattle.rows.specs.Limits.{workers_max}
use Rattle.dispatcher.proofs.counting.copy_of.Given as goal

abbrev pub invariant-loop-count : goal.invariant-loop-count
invariant-loop-count l = record {
  few : length l.count-items ≤ workers_max;
  same : l.count-items ≡ l.counts;
  copied : l.copy ≡ take l.count-index l.count-items;
}
