-- Each number so far is 0.
use Rattle.std.proofs.Common.{◌≡◌, ◌<◌, ◌≤◌, ℕ, length, Some}
use Rattle.std.specs.List.{slice_get}
use Rattle.std.specs.Vec.{vec_capacity, vec_len}
use Rattle.desk.proofs.roster.Roster.new.Given as goal

abbrev pub invariant-loop : goal.invariant-loop
invariant-loop g l =
    (vec_len l.lasts ≡ l.counter) × (l.count ≤ vec_capacity l.lasts) × (l.counter ≤ l.count) × (l.book.total ≡ 0)
    × ((seat : ℕ) → seat < length l.lasts.items → slice_get l.lasts.items seat ≡ Some 0)
