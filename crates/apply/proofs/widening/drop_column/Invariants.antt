-- The blocks before the index have dropped it, and the others are as they were.
use Rattle.std.proofs.Common.{◌≡◌, ◌++◌, map, take, drop}
use Rattle.apply.specs.Blocks.{narrower}
use Rattle.apply.proofs.widening.drop_column.Given as goal

abbrev pub invariant-loop-k : goal.invariant-loop-k
invariant-loop-k l = l.blocks ≡ take l.k (map narrower l.initial.blocks) ++ drop l.k l.initial.blocks
