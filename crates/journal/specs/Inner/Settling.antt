-- What stands in the file of a journal.
use Rattle.std.specs.Prelude.{◌≡◌, ℕ, ◌≤◌, List, length, take, Bool, false}

-- `len` bytes are known to stand, and were synced; there are others after them, or others that were synced, only if something failed
pub record StandsIn (len : ℕ) (unsettled : Bool) (content synced : List ℕ) : Type 0 where
  pub within : len ≤ length content
  pub kept : take len synced ≡ take len content
  pub settled : unsettled ≡ false → (len ≡ length content) × (synced ≡ content)
