-- The numbers at the positions so far.
use Rattle.std.proofs.Common.{◌≡◌, map, take, slice_index_or, length, ◌≤◌, vec_capacity}
use Rattle.plans.proofs.selecting.gather_numbers.Given as goal

abbrev pub invariant-loop-position : goal.invariant-loop-position
invariant-loop-position l = record {
  items : l.gathered.items ≡ map (λ position. slice_index_or l.numbers position 0) (take l.position-index l.positions);
  room : length l.positions ≤ vec_capacity l.gathered;
}
