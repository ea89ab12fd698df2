-- A hash table of identifiers: in which bucket of slots each may be, and which there are.
use Rattle.std.specs.Prelude.{◌≡◌, ℕ, ◌+◌, ◌*◌, ◌/◌, ◌%◌, ◌^◌, ◌<◌, List, length, slice_index, ◌++◌, ◌==◌, not}
use Rattle.std.specs.Prelude.{◌≤◌, ◌≢◌, ◌⊎◌}
use Rattle.std.specs.List.{filter}

-- the bucket of an identifier, in a table of so many slots, where sixteen are a bucket
unfoldable pub bucket_in : ℕ → ℕ → ℕ
bucket_in slots id = (id / 8 + id / 2 ^ 24 * 11400714819323198485 % 2 ^ 64 / 2 ^ 32) % (slots / 16)

-- whether a slot is in the bucket of an identifier
abbrev pub IsInBucket : List ℕ → ℕ → ℕ → Type 0
IsInBucket slots id at = (16 ≤ length slots) × (at / 16 ≡ bucket_in (length slots) id)

-- each slot is empty, or in the bucket of its identifier
abbrev pub AreInBuckets : List ℕ → Type 0
AreInBuckets slots = (at : ℕ) → 0 < slice_index slots at → IsInBucket slots (slice_index slots at) at

-- the identifiers in slots
abbrev pub ids_of : List ℕ → List ℕ
ids_of slots = filter (λ id. not (id == 0)) slots

-- the identifiers in slots, and others
abbrev pub ids_in : List ℕ → List ℕ → List ℕ
ids_in slots others = ids_of slots ++ others

-- each slot is as it was, or had an identifier and is empty, and none of those from one slot up to another has it
pub record IsCleared (old new : List ℕ) (id first behind : ℕ) : Type 0 where
  pub len : length new ≡ length old
  pub each : (at : ℕ) → (slice_index new at ≡ slice_index old at) ⊎ ((slice_index new at ≡ 0) × (slice_index old at ≡ id))
  pub gone : (at : ℕ) → first ≤ at → at < behind → slice_index new at ≢ id
