-- What holds of each element, of lists that are joined or split.
use Rattle.std.proofs.Common.{◌≡◌, ℕ, zero, suc, ◌<◌, List, [], ◌∷◌, ◌++◌, length, get_or, drop, Some}
use Rattle.std.proofs.Common.{Result, Ok, Err, IfOk, OnOk, OnErr, subst, sym, arith}
use Rattle.std.specs.Prelude.{slice_get}
use Rattle.std.specs.List.{flat_map, AllByRecursion}

pub all-append : {X : Type 0} (P : X → Type 0) (xs ys : List X) → AllByRecursion P xs → AllByRecursion P ys → AllByRecursion P (xs ++ ys)
all-append P [] ys h k = k
all-append P (x ∷ xs) ys h k = (h.0, all-append P xs ys h.1 k)

pub all-front : {X : Type 0} (P : X → Type 0) (xs ys : List X) → AllByRecursion P (xs ++ ys) → AllByRecursion P xs
all-front P [] ys h = tt
all-front P (x ∷ xs) ys h = (h.0, all-front P xs ys h.1)

pub all-back : {X : Type 0} (P : X → Type 0) (xs ys : List X) → AllByRecursion P (xs ++ ys) → AllByRecursion P ys
all-back P [] ys h = h
all-back P (x ∷ xs) ys h = all-back P xs ys h.1

pub all-drop : {X : Type 0} (P : X → Type 0) (n : ℕ) (xs : List X) → AllByRecursion P xs → AllByRecursion P (drop n xs)
all-drop P zero xs h = h
all-drop P (suc n) [] h = tt
all-drop P (suc n) (x ∷ xs) h = all-drop P n xs h.1

pub all-get_or : {X : Type 0} (P : X → Type 0) (xs : List X) (i : ℕ) (d : X) → i < length xs → AllByRecursion P xs → P (get_or xs i d)
all-get_or P [] i d lt h = absurd (omega arith)
all-get_or P (x ∷ xs) zero d lt h = h.0
all-get_or P (x ∷ xs) (suc i) d lt h = all-get_or P xs i d (omega arith) h.1

-- what holds of each element of joined lists holds of each of each
pub all-joined : {X : Type 0} (P : X → Type 0) (parts : List (List X)) → AllByRecursion P (flat_map (λ part. part) parts)
    → AllByRecursion (AllByRecursion P) parts
all-joined P [] h = tt
all-joined P (part ∷ parts) h =
    (all-front P part (flat_map (λ part. part) parts) h, all-joined P parts (all-back P part (flat_map (λ part. part) parts) h))

-- an element that is found
pub all-found : {X : Type 0} (P : X → Type 0) (xs : List X) (i : ℕ) (x : X) → AllByRecursion P xs → Some x ≡ slice_get xs i → P x
all-found P [] i x h found = absurd cc
all-found P (first ∷ xs) zero x h found = let same : first ≡ x = cc in subst P same h.0
all-found P (first ∷ xs) (suc i) x h found = all-found P xs i x h.1 found

-- what an Ok value has, and what follows of it
pub ok-then : {T E : Type 0} (P Q : T → Type 0) (result : Result T E) → ((value : T) → P value → Q value) → IfOk result P → IfOk result Q
ok-then P Q (Ok value) f h = f value h
ok-then P Q (Err fault) f h = tt

pub on-ok : {T E : Type 0} (P Q : Type 0) (result : Result T E) → (P → Q) → OnOk result P → OnOk result Q
on-ok P Q (Ok value) f h = f h
on-ok P Q (Err fault) f h = tt

-- what holds of each element still does, where more were added or none
pub all-after : {X T E : Type 0} (P : X → Type 0) (result : Result T E) (old more new : List X) → OnOk result (new ≡ old ++ more)
    → OnErr result (new ≡ old) → AllByRecursion P old → AllByRecursion P more → AllByRecursion P new
all-after P (Ok value) old more new ok err h k = subst (AllByRecursion P) (sym ok) (all-append P old more h k)
all-after P (Err fault) old more new ok err h k = subst (AllByRecursion P) (sym err) h
