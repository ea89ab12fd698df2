-- Beginnings of lists.
use Rattle.std.proofs.Common.{◌≡◌, refl, ap, sym, ◌∙◌, arith, ℕ, zero, suc, ◌≤◌}
use Rattle.std.proofs.Common.{List, [], ◌∷◌, ◌++◌, length, take, drop, append_assoc, length-append, subst, Bool, true, false, MatchBool}
use Rattle.std.proofs.lemmas.List.{take-append-drop}
use Rattle.std.proofs.Math.Seq.{take-append_seam}
use mathlib.Core.List.{IsPrefix}

pub prefix_self : {A : Type 0} (xs : List A) → IsPrefix xs xs
prefix_self [] = ([], refl)
prefix_self (x ∷ xs) = (let r = prefix_self xs in r.0, ap (λ ys. x ∷ ys) (prefix_self xs).1)

pub prefix_trans : {A : Type 0} (xs ys zs : List A) → IsPrefix xs ys → IsPrefix ys zs → IsPrefix xs zs
prefix_trans xs ys zs p q = (p.0 ++ q.0, sym (append_assoc xs p.0 q.0) ∙ (ap (λ w. w ++ q.0) p.1 ∙ q.1))

pub prefix_append : {A : Type 0} (xs ys more : List A) → IsPrefix xs ys → IsPrefix xs (ys ++ more)
prefix_append xs ys more p = (p.0 ++ more, sym (append_assoc xs p.0 more) ∙ ap (λ w. w ++ more) p.1)

pub prefix_length : {A : Type 0} (xs ys : List A) → IsPrefix xs ys → length xs ≤ length ys
prefix_length xs ys p = omega (arith, sym (ap length p.1) ∙ length-append xs p.0)

-- a beginning is the first so many
pub is_first : {A : Type 0} (xs ys : List A) → IsPrefix xs ys → xs ≡ take (length xs) ys
is_first xs ys p = sym (ap (take (length xs)) (sym p.1) ∙ take-append_seam xs p.0)

pub first_begins : {A : Type 0} (n : ℕ) (xs : List A) → IsPrefix (take n xs) xs
first_begins n xs = (drop n xs, take-append-drop n xs)

-- the first few begin the first more
pub fewer_begin : {A : Type 0} (i j : ℕ) (xs : List A) → i ≤ j → IsPrefix (take i xs) (take j xs)
fewer_begin zero j xs le = (take j xs, refl)
fewer_begin (suc i) zero xs le = absurd (omega arith)
fewer_begin (suc i) (suc j) [] le = ([], refl)
fewer_begin (suc i) (suc j) (x ∷ xs) le =
    let r = fewer_begin i j xs (omega arith) in (r.0, ap (λ ys. x ∷ ys) r.1)

-- of a list the first so many, if these are no fewer
pub begins_first : {A : Type 0} (xs ys : List A) (i : ℕ) (all : List A) → IsPrefix xs all → length xs ≤ i → ys ≡ take i all → IsPrefix xs ys
begins_first xs ys i all p le is =
    subst (λ zs. IsPrefix xs zs) (sym is)
    (subst (λ zs. IsPrefix zs (take i all)) (sym (is_first xs all p)) (fewer_begin (length xs) i all le))

-- what is shown is all, or what was
pub shown_begins : {A : Type 0} (b : Bool) (old shown all : List A) → IsPrefix old all → MatchBool b (shown ≡ all) (shown ≡ old)
    → IsPrefix shown all
shown_begins true old shown all p is = rw is (prefix_self all)
shown_begins false old shown all p is = rw is p
