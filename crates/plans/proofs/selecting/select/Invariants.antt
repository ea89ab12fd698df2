-- Those selected of the positions so far; and the numbers so far are numbers of 64 bits.
use Rattle.std.proofs.Common.{◌≡◌, ◌≤◌, length, take, FitsSigned, w64}
use Rattle.std.specs.List.{All, filter}
use Rattle.plans.specs.Inner.Selected.{is_selected, number_at}
use Rattle.plans.proofs.selecting.select.Given as goal

abbrev pub invariant-loop-i : goal.invariant-loop-i
invariant-loop-i l = record {
  sizes : length l.selected.items ≡ length l.positions;
  few : l.count ≤ l.i;
  selected : take l.count l.selected.items
      ≡ filter (λ position. is_selected l.low l.high l.inside (number_at l.numbers position)) (take l.i l.positions);
  fit : All (λ position. FitsSigned w64 (number_at l.numbers position)) (take l.i l.positions);
}
