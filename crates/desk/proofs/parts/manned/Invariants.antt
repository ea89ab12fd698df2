-- Each seat so far is new, has the number of its place, and has one part of the ledger.
use Rattle.std.proofs.Common.{◌≡◌, ◌+◌, ◌≤◌}
use Rattle.std.specs.List.{AllByRecursion}
use Rattle.std.specs.Vec.{vec_capacity, vec_len}
use Rattle.desk.specs.Keeping.{HaveNumbersFrom}
use Rattle.desk.specs.State.{IsNew}
use Rattle.desk.proofs.parts.manned.Given as goal

abbrev pub invariant-loop-number : goal.invariant-loop-number
invariant-loop-number g l =
    (l.rest.parts + l.number ≡ l.seats) × (l.rest.amount ≡ 0) × (l.number ≤ l.seats)
    × (vec_len l.free ≡ l.number) × (l.seats ≤ vec_capacity l.free) × AllByRecursion (IsNew g.L.Origin.first) l.free.items
    × HaveNumbersFrom 0 l.free.items
