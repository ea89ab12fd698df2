-- Only for proofs: the boots of a replica, and what a datagram that names one of them says.
use Rattle.std.specs.Prelude.{◌≡◌, ℕ, ◌^◌, ◌<◌, List}
use Rattle.std.specs.List.{Contains}

-- a replica that had these boots is in this one
pub record IsInBoot (boots : List ℕ) (boot : ℕ) : Type 0 where
  pub had : Contains boots boot
  pub below : boot < 2 ^ 64

-- a datagram names this boot, to or from a replica that had these and is in its own: it is one of them, and where it is its own
-- the fact holds
pub record IsOfBoot (boots : List ℕ) (own boot : ℕ) (Fact : Type 0) : Type 0 where
  pub had : Contains boots boot
  pub holds : boot ≡ own → Fact
