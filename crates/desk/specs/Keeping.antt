-- What holds of a desk whenever the lock of its line is taken.
use Rattle.std.specs.Prelude.{◌≡◌, ℕ, suc, ◌+◌, ◌<◌, ◌≤◌, List, [], ◌∷◌, length, Some, slice_get, ◌==◌, if◌then◌else◌}
use mathlib.Core.List.{IsPrefix}
use Rattle.primary.specs.State.{Primary}
use Rattle.desk.specs.State.{SeatState, OnDesk}

-- how many commits a primary has, durable or pending
abbrev pub commit_count : Primary → ℕ
commit_count p = length p.durable + length p.pending

-- the number of the last of these commits that carries the seat, or `last` if none does; `before` commits stand before them
abbrev pub last_carried : ℕ → ℕ → ℕ → List ℕ → ℕ
last_carried seat last before [] = last
last_carried seat last before (carried ∷ seats) =
    last_carried seat (if carried == seat then before + 1 else last) (before + 1) seats

-- the last number of a seat, 0 for none, of a line that was made with this primary
abbrev pub last_number : Primary → List ℕ → ℕ → ℕ
last_number first seats seat = last_carried seat 0 (commit_count first) seats

-- the seats that are not given out: their numbers are this one and those that follow it, in their order
abbrev pub HaveNumbersFrom : ℕ → List SeatState → Type 0
HaveNumbersFrom number [] = Unit {0}
HaveNumbersFrom number (seat ∷ seats) = (seat.number ≡ number) × HaveNumbersFrom (suc number) seats

-- a desk of a line that was made with this primary, for so many seats
pub record IsKept {J : Type 0} (first : Primary) (seats : ℕ) (desk : OnDesk J) : Type 0 where
  pub of_schema : desk.core.primary.schema ≡ first.schema
  pub of_workers : desk.core.primary.workers ≡ first.workers
  -- what is published begins what is told, and that the durable list
  pub shown : IsPrefix desk.shown desk.told
  pub told : IsPrefix desk.told desk.core.primary.durable
  -- each commit since the line was made carries a seat, and their number is the sum of all shares
  pub carried : commit_count first + length desk.seats ≡ commit_count desk.core.primary
  pub counted : desk.total ≡ length desk.seats
  -- the last number that is kept of a seat is that of the last commit that carries it
  pub manned : length desk.lasts ≡ seats
  pub lasts : (seat : ℕ) → seat < seats → slice_get desk.lasts seat ≡ Some (last_number first desk.seats seat)
  pub free : desk.free ≤ seats
