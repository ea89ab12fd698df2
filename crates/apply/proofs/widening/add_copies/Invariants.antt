-- The blocks before the index have the column, and the others are as they were.
use Rattle.std.proofs.Common.{◌≡◌, ◌++◌, map, take, drop}
use Rattle.apply.specs.Blocks.{wider}
use Rattle.apply.proofs.widening.add_copies.Given as goal

abbrev pub invariant-loop-k : goal.invariant-loop-k
invariant-loop-k l = l.blocks ≡ take l.k (map (wider l.default) l.initial.blocks) ++ drop l.k l.initial.blocks
