-- Those selected of the positions so far; and the numbers so far are numbers of 64 bits.
use Rattle.std.proofs.Common.{◌≡◌, ◌≤◌, length, take, FitsSigned, w64}
use Rattle.std.specs.List.{All, filter, range_with_len}
use Rattle.plans.specs.Inner.Selected.{is_selected, number_at}
use Rattle.plans.proofs.selecting.select_all.Given as goal

abbrev pub invariant-loop-position : goal.invariant-loop-position
invariant-loop-position l = record {
  sizes : length l.selected.items ≡ length l.numbers;
  few : l.count ≤ l.position;
  selected : take l.count l.selected.items
      ≡ filter (λ position. is_selected l.low l.high l.inside (number_at l.numbers position)) (range_with_len 0 l.position);
  fit : All (λ position. FitsSigned w64 (number_at l.numbers position)) (range_with_len 0 l.position);
}
