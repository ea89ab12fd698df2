-- The numbers at the positions so far.
use Rattle.std.proofs.Common.{◌≡◌, map, take, length, ◌≤◌, vec_capacity}
use Rattle.plans.specs.Inner.Selected.{number_at}
use Rattle.plans.proofs.selecting.gather.Given as goal

abbrev pub invariant-loop-position : goal.invariant-loop-position
invariant-loop-position l = record {
  items : l.gathered.items ≡ map (number_at l.numbers) (take l.position-index l.positions);
  room : length l.positions ≤ vec_capacity l.gathered;
}
