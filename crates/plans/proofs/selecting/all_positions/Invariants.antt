-- The positions before this one.
use Rattle.std.proofs.Common.{◌≡◌, ◌≤◌, vec_len, vec_capacity}
use Rattle.std.specs.List.{range_with_len}
use Rattle.plans.proofs.selecting.all_positions.Given as goal

abbrev pub invariant-loop-position : goal.invariant-loop-position
invariant-loop-position l = record {
  items : l.positions.items ≡ range_with_len 0 l.position;
  len : vec_len l.positions ≡ l.position;
  room : l.count ≤ vec_capacity l.positions;
}
