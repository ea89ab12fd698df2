-- One row more is added to what is kept of its group.
use mir.Syntax.{w128}
use Rattle.std.proofs.Common.{◌≡◌, ◌≢◌, ℕ, zero, suc, ◌+◌, ◌<◌, ◌≤◌, ◌^◌, FitsSigned, w64, to_z, of_z}
use Rattle.std.proofs.Common.{ℤ, ◌+ℤ◌, Bool, true, false, ◌==◌, cond, List, [], ◌∷◌, ◌++◌}
use Rattle.std.proofs.Common.{length, take, drop, set, get_or}
use Rattle.std.proofs.Common.{refl, sym, ap, subst, ◌∙◌, arith, eqb-true}
use Rattle.std.proofs.lemmas.Bool.Decides.{nat_tests}
use Rattle.std.specs.List.{filter, range_with_len}
use Rattle.std.proofs.lemmas.Int.{ints}
use Rattle.std.proofs.lemmas.List.{drop_more, get_or_default, get_or-set_same, get_or-set_other, length-set, take-set, take_more_set}
use Rattle.std.proofs.lemmas.List.{append-nil}
use Rattle.std.specs.Int.{from_bool}
use Rattle.std.proofs.lemmas.List.Elements.{filter-append}
use Rattle.plans.specs.Inner.Picked.{picked, total, folded, IsWithin, AreWithin}

pub folded-count : {V : Type 0} (a : ℕ) (values : List V) → folded (λ count value. count + 1) a values ≡ a + length values
folded-count a [] = omega arith
folded-count a (value ∷ values) = let rest = folded-count (a + 1) values in omega (arith, rest)

pub folded-total : (a : ℤ) (values : List ℤ) → folded (λ sum value. sum +ℤ value) a values ≡ a +ℤ total values
folded-total a [] = omega (arith, ints)
folded-total a (value ∷ values) = let rest = folded-total (a +ℤ value) values in omega (arith, ints, rest)

-- the place of a number has its value added, and the others stay
pub step : {A V : Type 0} (op : A → V → A) (places : List A) (numbers : List ℕ) (values : List V) (i : ℕ) (e : ℕ) (v : V) (d f : A)
    → i < length numbers → i < length values → get_or numbers i e < length places
    → (n : ℕ) → n < length places
    → folded op (get_or (set places (get_or numbers i e) (op (get_or places (get_or numbers i e) d) (get_or values i v))) n f)
    (picked n (drop (i + 1) numbers) (drop (i + 1) values))
    ≡ folded op (get_or places n f) (picked n (drop i numbers) (drop i values))
step {A} {V} op places numbers values i e v d f few many within n lt =
    by (number == n) refl
    ∙ sym (λ k. folded op (get_or places n f) (picked n (drop_more numbers i e few k) (drop_more values i v many k)))
  where
    number : ℕ
    number = get_or numbers i e

    value : V
    value = get_or values i v

    rest : List V
    rest = picked n (drop (i + 1) numbers) (drop (i + 1) values)

    by : (same : Bool) → (number == n) ≡ same
        → folded op (get_or (set places number (op (get_or places number d) value)) n f) rest
        ≡ folded op (get_or places n f) (picked n (number ∷ drop (i + 1) numbers) (value ∷ drop (i + 1) values))
    by true is =
        let at : number ≡ n = eqb-true number n is in
        ap (λ a. folded op a rest)
        (ap (λ m. get_or (set places number (op (get_or places number d) value)) m f) (sym at)
        ∙ get_or-set_same places number (op (get_or places number d) value) f within
        ∙ ap (λ a. op a value) (get_or_default places number d f within)
        ∙ ap (λ m. op (get_or places m f) value) at)
        ∙ ap (λ b. folded op (get_or places n f) (cond b (value ∷ rest) rest)) (sym is)
    by false is =
        ap (λ a. folded op a rest)
        (get_or-set_other places number n (op (get_or places number d) value) f (grind (arith, nat_tests, is)))
        ∙ ap (λ b. folded op (get_or places n f) (cond b (value ∷ rest) rest)) (sym is)

-- the sums

pub IsWithin-add : (count : ℕ) (sum number : ℤ) → IsWithin count sum → FitsSigned w64 number → IsWithin (count + 1) (sum +ℤ number)
IsWithin-add count sum number within fits =
    let low = within.0 in
    let high = within.1 in
    (omega (arith, ints, low, high, fits), omega (arith, ints, low, high, fits))

pub IsWithin-fits : (count : ℕ) (sum : ℤ) → IsWithin count sum → count < 2 ^ 64 → FitsSigned w128 sum
IsWithin-fits count sum within few = let low = within.0 in let high = within.1 in omega (arith, ints, low, high, few)

pub landed : (x y : ℤ) → FitsSigned w128 x → FitsSigned w64 y → FitsSigned w128 (x +ℤ y)
    → to_z w128 (of_z w128 (to_z w128 (of_z w128 x) +ℤ to_z w64 (of_z w64 y))) ≡ x +ℤ y
landed x y one other both = omega (arith, ints, one, other, both)

-- a sum of one number more in a place, and the others as they were
pub within-set : (count more : ℕ) (sums : List ℤ) (place : ℕ) (sum : ℤ) → more ≡ count + 1 → place < length sums → AreWithin count sums
    → IsWithin (count + 1) sum → AreWithin more (set sums place sum)
within-set count more sums place sum is there within grown n d lt =
    subst (λ m. IsWithin m (get_or (set sums place sum) n d)) (sym is) (by (place == n) refl)
  where
    by : (same : Bool) → (place == n) ≡ same → IsWithin (count + 1) (get_or (set sums place sum) n d)
    by true same =
        subst (IsWithin (count + 1))
        (sym (ap (λ m. get_or (set sums place sum) m d) (sym (eqb-true place n same)) ∙ get_or-set_same sums place sum d there)) grown
    by false same =
        let apart : n ≢ place = grind (arith, nat_tests, same) in
        let few : n < length sums = omega (arith, lt, length-set sums place sum) in
        let held = within n d few in
        let low = held.0 in
        let high = held.1 in
        subst (IsWithin (count + 1)) (sym (get_or-set_other sums place n sum d apart))
        (omega (arith, ints, low, high), omega (arith, ints, low, high))

pub held : (y : ℤ) → FitsSigned w64 y → to_z w64 (of_z w64 y) ≡ y
held y fits = omega (arith, ints, fits)

-- ---- which positions are selected

-- a position more
pub positions-next : (n : ℕ) → range_with_len 0 (n + 1) ≡ range_with_len 0 n ++ n ∷ []
positions-next n = let on : n + 1 ≡ suc n = omega arith in ap (range_with_len 0) on ∙ last 0 n n (omega arith)
  where
    last : (a n k : ℕ) → a + n ≡ k → range_with_len a (suc n) ≡ range_with_len a n ++ k ∷ []
    last a zero k is = let same : a ≡ k = omega (arith, is) in ap (λ x. x ∷ []) same
    last a (suc n) k is = ap (λ rest. a ∷ rest) (last (a + 1) n k (omega (arith, is)))

-- of a list that has its length already, so many stand: one more is selected, or is not
pub kept-next : (p : ℕ → Bool) (front selected : List ℕ) (x count : ℕ) (same : Bool) → count < length selected → p x ≡ same
    → take count selected ≡ filter p front → take (count + from_bool same) (set selected count x) ≡ filter p (front ++ x ∷ [])
kept-next p front selected x count same room is so_far =
    by same
    ∙ ap (λ list. list ++ cond same (x ∷ []) []) so_far
    ∙ ap (λ b. filter p front ++ cond b (x ∷ []) []) (sym is)
    ∙ sym (filter-append p front (x ∷ []))
  where
    none : count + 0 ≡ count
    none = omega arith

    by : (same : Bool) → take (count + from_bool same) (set selected count x) ≡ take count selected ++ cond same (x ∷ []) []
    by true = take_more_set selected count x room
    by false =
        ap (λ n. take n (set selected count x)) none ∙ take-set selected count x ∙ sym (append-nil (take count selected))

pub at-most-one : (same : Bool) → from_bool same ≤ 1
at-most-one true = omega arith
at-most-one false = omega arith
