-- A seat and a desk, as their callers see them.
use Rattle.std.specs.Prelude.{◌≡◌, ℕ, List}
use Rattle.rows.specs.declared.commit.Commit.{Commit}
use Rattle.primary.specs.State.{Primary, Core}

-- a seat of a line as its callers see it: the list that it has seen, the number that its commits carry, its last ticket's number,
-- and its share
pub record SeatState : Type 0 where
  -- the list of commits that it has seen
  pub list : List Commit
  -- the number that its commits carry
  pub number : ℕ
  -- the number of its newest ticket, 0 before the first
  pub last : ℕ
  -- its share: how many tickets it has got
  pub share : ℕ

-- a seat as it is given out: it has seen what was durable when the line was made, with this primary, and has no ticket
pub record IsNew (first : Primary) (seat : SeatState) : Type 0 where
  pub list : seat.list ≡ first.durable
  pub last : seat.last ≡ 0
  pub share : seat.share ≡ 0

-- what is under a line's lock: the core, what of the durable list is told and published, and the seat of each commit
pub record OnDesk (J : Type 0) : Type 0 where
  pub core : Core J
  -- the durable commits that are in the line's history, all that a seat can have seen
  pub told : List Commit
  -- what is published
  pub shown : List Commit
  -- the seat of each commit since the line was made, durable or pending
  pub seats : List ℕ
  -- the last number of each seat
  pub lasts : List ℕ
  -- the sum of all shares
  pub total : ℕ
  -- how many seats are not given out
  pub free : ℕ
