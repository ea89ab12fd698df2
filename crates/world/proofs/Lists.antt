-- What stands at an index of a list after one more element, or one changed.
use Rattle.std.proofs.Common.{◌≡◌, ℕ, zero, suc, List, [], ◌∷◌, ◌++◌, take, Some, refl, sym, ap, ◌⊎◌, inl, inr}
use Rattle.std.specs.List.{slice_get, slice_set, AllByRecursion}

-- a list with what stands at an index put there again
pub set-same : {A : Type 0} (xs : List A) (i : ℕ) (x : A) → slice_get xs i ≡ Some x → slice_set xs i x ≡ xs
set-same [] i x h = refl
set-same (y ∷ xs) zero x h = let e : y ≡ x = cc in ap (λ z. z ∷ xs) (sym e)
set-same (y ∷ xs) (suc i) x h = ap (λ l. y ∷ l) (set-same xs i x h)

-- what stands at an index after a change
pub get-set : {A : Type 0} (xs : List A) (i : ℕ) (x : A) (j : ℕ) (y : A) → slice_get (slice_set xs i x) j ≡ Some y → ((j ≡ i) × (y ≡ x))
    ⊎ (slice_get xs j ≡ Some y)
get-set [] i x j y h = inr h
get-set (z ∷ xs) zero x zero y h = inl (refl, cc)
get-set (z ∷ xs) zero x (suc j) y h = inr h
get-set (z ∷ xs) (suc i) x zero y h = inr h
get-set (z ∷ xs) (suc i) x (suc j) y h = elim (get-set xs i x j y h) [ inl e ↦ inl (ap suc e.0, e.1) | inr e ↦ inr e ]

-- what stands at an index of two lists joined
pub get-append : {A : Type 0} (xs ys : List A) (i : ℕ) (x : A) → slice_get (xs ++ ys) i ≡ Some x → (slice_get xs i ≡ Some x)
    ⊎ ((j : ℕ) × (slice_get ys j ≡ Some x))
get-append [] ys i x h = inr (i, h)
get-append (y ∷ xs) ys zero x h = inl h
get-append (y ∷ xs) ys (suc i) x h = get-append xs ys i x h

-- the only index of a list of one
pub get-one : {A : Type 0} (y : A) (i : ℕ) (x : A) → slice_get (y ∷ []) i ≡ Some x → x ≡ y
get-one y zero x h = cc
get-one y (suc i) x h = absurd cc

-- an element that is there, and one that holds of each
pub All-get : {A : Type 0} (P : A → Type 0) (xs : List A) → AllByRecursion P xs → (i : ℕ) (x : A) → slice_get xs i ≡ Some x → P x
All-get P [] h i x e = absurd cc
All-get P (y ∷ xs) h zero x e = let same : y ≡ x = cc in rw (← same) h.0
All-get P (y ∷ xs) h (suc i) x e = All-get P xs h.1 i x e

pub All-append : {A : Type 0} (P : A → Type 0) (xs ys : List A) → AllByRecursion P xs → AllByRecursion P ys → AllByRecursion P (xs ++ ys)
All-append P [] ys h k = k
All-append P (x ∷ xs) ys h k = (h.0, All-append P xs ys h.1 k)

pub All-left : {A : Type 0} (P : A → Type 0) (xs ys : List A) → AllByRecursion P (xs ++ ys) → AllByRecursion P xs
All-left P [] ys h = tt
All-left P (x ∷ xs) ys h = (h.0, All-left P xs ys h.1)

pub All-front : {A : Type 0} (P : A → Type 0) (count : ℕ) (xs : List A) → AllByRecursion P xs → AllByRecursion P (take count xs)
All-front P zero xs h = tt
All-front P (suc count) [] h = tt
All-front P (suc count) (x ∷ xs) h = (h.0, All-front P count xs h.1)

-- what was put at an index is there
pub get-set_same : {A : Type 0} (xs : List A) (i : ℕ) (x y : A) → slice_get (slice_set xs i x) i ≡ Some y → y ≡ x
get-set_same [] i x y h = absurd cc
get-set_same (z ∷ xs) zero x y h = cc
get-set_same (z ∷ xs) (suc i) x y h = get-set_same xs i x y h

-- what stood at an index stays there
pub get-append_left : {A : Type 0} (xs ys : List A) (i : ℕ) (x : A) → slice_get xs i ≡ Some x → slice_get (xs ++ ys) i ≡ Some x
get-append_left [] ys i x h = absurd cc
get-append_left (y ∷ xs) ys zero x h = h
get-append_left (y ∷ xs) ys (suc i) x h = get-append_left xs ys i x h
