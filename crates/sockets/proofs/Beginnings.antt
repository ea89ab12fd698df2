-- Beginnings of lists.
use Rattle.std.proofs.Common.{◌≡◌, refl, ap, sym, ◌∙◌, arith, ℕ, zero, suc, ◌-◌, ◌≤◌, Bool, true, false, ◌==◌, if◌then◌else◌}
use Rattle.std.proofs.Common.{List, [], ◌∷◌, ◌++◌, length, take, append_assoc, length-append, None, Some}
use Rattle.std.specs.List.{slice_get}
use Rattle.std.proofs.lemmas.List.{take-append-le}
use mathlib.Core.List.{IsPrefix}
use Rattle.rows.specs.declared.commit.Commit.{Commit}
use Rattle.desk.specs.Answers.{commit_at}

pub prefix_self : {A : Type 0} (xs : List A) → IsPrefix xs xs
prefix_self [] = ([], refl)
prefix_self (x ∷ xs) = (let r = prefix_self xs in r.0, ap (λ ys. x ∷ ys) (prefix_self xs).1)

pub prefix_trans : {A : Type 0} (xs ys zs : List A) → IsPrefix xs ys → IsPrefix ys zs → IsPrefix xs zs
prefix_trans xs ys zs p q = (p.0 ++ q.0, sym (append_assoc xs p.0 q.0) ∙ (ap (λ w. w ++ q.0) p.1 ∙ q.1))

pub prefix_length : {A : Type 0} (xs ys : List A) → IsPrefix xs ys → length xs ≤ length ys
prefix_length xs ys p = omega (arith, sym (ap length p.1) ∙ length-append xs p.0)

-- the first few of a list are those of a longer one
pub take-begun : {A : Type 0} (n : ℕ) (xs ys : List A) → IsPrefix xs ys → n ≤ length xs → take n xs ≡ take n ys
take-begun n xs ys p le = sym (ap (take n) (sym p.1) ∙ take-append-le n xs p.0 le)

get-append : {A : Type 0} (xs more : List A) (i : ℕ) (x : A) → slice_get xs i ≡ Some x → slice_get (xs ++ more) i ≡ Some x
get-append [] more i x is = absurd (cc is)
get-append (y ∷ xs) more zero x is = is
get-append (y ∷ xs) more (suc i) x is = get-append xs more i x is

-- a commit that stands in a list stands there in a longer one
pub commit_at-begun : (list all : List Commit) (number : ℕ) (commit : Commit) → IsPrefix list all
    → commit_at list number ≡ Some commit → commit_at all number ≡ Some commit
commit_at-begun list all number commit p is = by (number == 0) is
  where
    by : (none : Bool) → (if none then None else slice_get list (number - 1)) ≡ Some commit
        → (if none then None else slice_get all (number - 1)) ≡ Some commit
    by true e = absurd (cc e)
    by false e = ap (λ xs. slice_get xs (number - 1)) (sym p.1) ∙ get-append list p.0 (number - 1) commit e
