-- As many rows as the position stand up to `low`, and more up to `high`.
use Rattle.std.proofs.Common.{◌-◌, ◌<◌, ◌≤◌, length}
use Rattle.apply.specs.Inner.Joins.{end_before}
use Rattle.apply.proofs.sequence.block_at.Given as goal

abbrev pub invariant-loop-low : goal.invariant-loop-low
invariant-loop-low l = record {
  apart : l.low < l.high;
  within : l.high ≤ length l.ends;
  below : end_before l.ends l.low ≤ l.at;
  above : l.at < end_before l.ends l.high;
}

abbrev pub decreases-loop-low : goal.decreases-loop-low
decreases-loop-low l = l.high - l.low
