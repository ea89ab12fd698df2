-- The values at the positions so far.
use Rattle.std.proofs.Common.{◌≡◌, map, take, length, ◌≤◌, vec_capacity}
use Rattle.plans.specs.Inner.Cells.{value_at}
use Rattle.plans.proofs.selecting.gather_values.Given as goal

abbrev pub invariant-loop-position : goal.invariant-loop-position
invariant-loop-position l = record {
  items : l.gathered.items ≡ map (value_at l.values) (take l.position-index l.positions);
  room : length l.positions ≤ vec_capacity l.gathered;
}
