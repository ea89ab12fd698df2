-- The values of the rows that have a number.
use Rattle.std.specs.Prelude.{ℕ, ◌*◌, ◌^◌, ◌<◌, ℤ, pos, neg_ℤ, ◌+ℤ◌, ◌≤ℤ◌, List, [], ◌∷◌, length, ◌==◌, if◌then◌else◌, slice_index_or}

-- the values that stand beside this number
abbrev pub picked : {A : Type 0} → ℕ → List ℕ → List A → List A
picked n [] values = []
picked n (number ∷ numbers) [] = []
picked n (number ∷ numbers) (value ∷ values) = if number == n then value ∷ picked n numbers values else picked n numbers values

-- values, added one after the other
abbrev pub folded : {A V : Type 0} → (A → V → A) → A → List V → A
folded add a [] = a
folded add a (value ∷ values) = folded add (add a value) values

-- the sum of numbers
abbrev pub total : List ℤ → ℤ
total [] = pos 0
total (number ∷ numbers) = number +ℤ total numbers

-- each number is that of a place in a list of this length
abbrev pub ArePlaces : ℕ → List ℕ → Type 0
ArePlaces places numbers = (i : ℕ) (d : ℕ) → i < length numbers → slice_index_or numbers i d < places

-- a sum is within that of so many numbers of 64 bits
abbrev pub IsWithin : ℕ → ℤ → Type 0
IsWithin count sum = (neg_ℤ (pos (count * 2 ^ 63)) ≤ℤ sum) × (sum ≤ℤ pos (count * 2 ^ 63))

-- and each of some sums
abbrev pub AreWithin : ℕ → List ℤ → Type 0
AreWithin count sums = (n : ℕ) (d : ℤ) → n < length sums → IsWithin count (slice_index_or sums n d)
