-- How a roster stands.
use Rattle.std.specs.Prelude.{◌≡◌, ℕ, ◌<◌, List, length, Some, slice_get}
use Rattle.primary.specs.State.{Primary}
use Rattle.desk.specs.Keeping.{last_number}

pub record Noted : Type 0 where
  -- the seat of each commit
  pub seats : List ℕ
  pub lasts : List ℕ
  pub total : ℕ
  -- how many more commits can be noted without memory
  pub room : ℕ

pub record IsNoted (first : Primary) (count : ℕ) (noted : Noted) : Type 0 where
  pub counted : noted.total ≡ length noted.seats
  pub manned : length noted.lasts ≡ count
  pub lasts : (seat : ℕ) → seat < count → slice_get noted.lasts seat ≡ Some (last_number first noted.seats seat)
