-- What holds of a list where one element is set, and of what stands at an index.
use Rattle.std.proofs.Common.{◌≡◌, ℕ, zero, suc, List, [], ◌∷◌, ◌++◌, map, Option, None, Some, slice_get, slice_set}
use Rattle.std.proofs.Common.{IfSome, refl, ap, sym}
use Rattle.std.specs.List.{AllByRecursion}
use Rattle.std.specs.Option.{option_and_then}
use Rattle.std.proofs.lemmas.Option.{same_Some}

-- what is at an index may be put there again
pub set_same : {X : Type 0} (xs : List X) (i : ℕ) (x : X) → slice_get xs i ≡ Some x → slice_set xs i x ≡ xs
set_same [] i x at = refl
set_same (y ∷ ys) zero x at = ap (λ z. z ∷ ys) (sym (same_Some y x at))
set_same (y ∷ ys) (suc i) x at = ap (λ zs. y ∷ zs) (set_same ys i x at)

pub slot_same : {X : Type 0} (xs : List (Option X)) (i : ℕ) (slot : Option X) → option_and_then (λ s. s) (slice_get xs i) ≡ slot
    → slice_set xs i slot ≡ xs
slot_same [] i slot at = refl
slot_same (y ∷ ys) zero slot at = ap (λ z. z ∷ ys) (sym at)
slot_same (y ∷ ys) (suc i) slot at = ap (λ zs. y ∷ zs) (slot_same ys i slot at)

-- what holds of each element holds of the one at an index
pub all_at : {X : Type 0} (P : X → Type 0) (xs : List X) (i : ℕ) (x : X) → slice_get xs i ≡ Some x → AllByRecursion P xs → P x
all_at P [] i x at all = absurd cc
all_at P (y ∷ ys) zero x at all = rw (← same_Some y x at) all.0
all_at P (y ∷ ys) (suc i) x at all = all_at P ys i x at all.1

pub slot_at : {X : Type 0} (P : X → Type 0) (xs : List (Option X)) (i : ℕ) (x : X) → option_and_then (λ s. s) (slice_get xs i) ≡ Some x
    → AllByRecursion (λ slot. IfSome slot P) xs → P x
slot_at P [] i x at all = absurd cc
slot_at P (None ∷ ys) zero x at all = absurd cc
slot_at P (Some y ∷ ys) zero x at all = rw (← same_Some y x at) all.0
slot_at P (y ∷ ys) (suc i) x at all = slot_at P ys i x at all.1

pub all_set : {X : Type 0} (P : X → Type 0) (xs : List X) (i : ℕ) (x : X) → P x → AllByRecursion P xs → AllByRecursion P (slice_set xs i x)
all_set P [] i x here all = all
all_set P (y ∷ ys) zero x here all = (here, all.1)
all_set P (y ∷ ys) (suc i) x here all = (all.0, all_set P ys i x here all.1)

pub all_push : {X : Type 0} (P : X → Type 0) (xs : List X) (x : X) → P x → AllByRecursion P xs → AllByRecursion P (xs ++ x ∷ [])
all_push P [] x here all = (here, tt)
all_push P (y ∷ ys) x here all = (all.0, all_push P ys x here all.1)

pub all_weaker : {X : Type 0} (P Q : X → Type 0) (xs : List X) → ((x : X) → P x → Q x) → AllByRecursion P xs → AllByRecursion Q xs
all_weaker P Q [] weaker all = tt
all_weaker P Q (y ∷ ys) weaker all = (weaker y all.0, all_weaker P Q ys weaker all.1)

-- what holds of each element as it is seen holds of what is seen
pub all_map : {X Y : Type 0} (f : X → Y) (P : Y → Type 0) (xs : List X) → AllByRecursion (λ x. P (f x)) xs → AllByRecursion P (map f xs)
all_map f P [] all = tt
all_map f P (x ∷ xs) all = (all.0, all_map f P xs all.1)
