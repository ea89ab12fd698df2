-- What stands at an index of a list.
use Rattle.std.proofs.Common.{◌≡◌, ◌≢◌, ℕ, zero, suc, ◌-◌, ◌≤◌, cond, ◌==◌, List, [], ◌∷◌, length, None, Some, slice_get, refl, sym, ap}
use Rattle.std.proofs.Common.{◌∙◌, arith, inl, inr}
use Rattle.std.specs.List.{slice_set}
use Rattle.std.specs.Option.{option_map}
use Rattle.std.proofs.lemmas.Bool.{cases_eq, eq-eqb, ne_eqb}
use Rattle.mvcc.specs.Inner.Columns.{last_from}

-- an index of a list where one was replaced
slice_get-set_same : {X : Type 0} (xs : List X) (i : ℕ) (x : X) → slice_get (slice_set xs i x) i ≡ option_map (λ was. x) (slice_get xs i)
slice_get-set_same [] i x = refl
slice_get-set_same (first ∷ xs) zero x = refl
slice_get-set_same (first ∷ xs) (suc i) x = slice_get-set_same xs i x

slice_get-set_other : {X : Type 0} (xs : List X) (i j : ℕ) (x : X) → i ≢ j → slice_get (slice_set xs i x) j ≡ slice_get xs j
slice_get-set_other [] i j x h = refl
slice_get-set_other (first ∷ xs) zero zero x h = absurd (h refl)
slice_get-set_other (first ∷ xs) zero (suc j) x h = refl
slice_get-set_other (first ∷ xs) (suc i) zero x h = refl
slice_get-set_other (first ∷ xs) (suc i) (suc j) x h = slice_get-set_other xs i j x (λ e. h (ap suc e))

pub slice_get-set : {X : Type 0} (xs : List X) (i j : ℕ) (x : X)
    → slice_get (slice_set xs i x) j ≡ cond (i == j) (option_map (λ was. x) (slice_get xs j)) (slice_get xs j)
slice_get-set xs i j x = elim (cases_eq i j) [
  | inl same ↦ rw (eq-eqb i j same, same) (slice_get-set_same xs j x)
  | inr apart ↦ rw (ne_eqb i j apart) (slice_get-set_other xs i j x apart)
]

-- the last number
pub last-is : (numbers : List ℕ) (number last : ℕ) → slice_get numbers (length numbers - 1) ≡ Some number → last_from last numbers ≡ number
last-is [] number last h = cc
last-is (first ∷ []) number last h = cc
last-is (first ∷ next ∷ numbers) number last h =
    let e : suc (suc (length numbers)) - 1 ≡ suc (length numbers) = omega arith in
    let f : suc (length numbers) - 1 ≡ length numbers = omega arith in
    last-is (next ∷ numbers) number first (ap (slice_get (next ∷ numbers)) f ∙ sym (ap (slice_get (first ∷ next ∷ numbers)) e) ∙ h)

-- nothing stands behind its end
pub slice_get-past : {X : Type 0} (xs : List X) (i : ℕ) → slice_get xs i ≡ None → length xs ≤ i
slice_get-past [] i h = omega arith
slice_get-past (x ∷ xs) zero h = cc
slice_get-past (x ∷ xs) (suc i) h = omega (arith, slice_get-past xs i h)
