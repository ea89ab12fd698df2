-- The ends of the blocks so far, and how many rows these have.
use Rattle.std.proofs.Common.{◌≡◌, ◌≤◌, length, take, vec_capacity}
use Rattle.apply.specs.Inner.Joins.{joined, ends_from}
use Rattle.apply.proofs.sequence.renew_ends.Given as goal

abbrev pub invariant-loop-k : goal.invariant-loop-k
invariant-loop-k l = record {
  ends : l.ends.items ≡ ends_from 0 (take l.k l.blocks);
  rows : l.rows ≡ length (joined (take l.k l.blocks));
  room : length l.blocks ≤ vec_capacity l.ends;
}
