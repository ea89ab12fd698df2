-- The rows before the block at `low` are below the row, and those from the block at `high` on above it.
use Rattle.std.proofs.Common.{◌-◌, ◌<◌, ◌≤◌, length, take, drop}
use Rattle.apply.specs.Orders.{AllOver, AllUnder}
use Rattle.apply.specs.Inner.Joins.{joined}
use Rattle.apply.proofs.sequence.home_of.Given as goal

abbrev pub invariant-loop-low : goal.invariant-loop-low
invariant-loop-low l = record {
  apart : l.low < l.high;
  within : l.high ≤ length l.blocks;
  front : AllUnder l.row (joined (take l.low l.blocks));
  back : AllOver l.row (joined (drop l.high l.blocks));
}

abbrev pub decreases-loop-low : goal.decreases-loop-low
decreases-loop-low l = l.high - l.low
