-- Which records stand whole among the first bytes of the journal's text.
use Rattle.std.proofs.Common.{◌≡◌, ℕ, zero, suc, ◌+◌, ◌-◌, ◌≤◌, Bool, true, false, cond, List, [], ◌∷◌, ◌++◌, length, take, refl}
use Rattle.std.proofs.Common.{sym, ap, ◌∙◌}
use Rattle.std.proofs.Common.{append_assoc, arith}
use Rattle.std.specs.Prelude.{nat_le}
use Rattle.std.proofs.lemmas.Bool.{leb-true, leb-false}
use Rattle.std.proofs.lemmas.List.{length-append}
use Rattle.std.proofs.Math.Seq.{take-append-add}
use Rattle.rows.specs.declared.commit.Commit.{Commit}
use Rattle.journal.specs.Recovery.{IsBeginning}
use Rattle.journal.specs.Text.{record_of, records_from}
use Rattle.world.specs.Stops.{whole_in}

-- ---- beginnings of lists

-- what is taken of two lists joined, past the first
pub take-past : {A : Type 0} (xs ys : List A) (count : ℕ) → length xs ≤ count → take count (xs ++ ys) ≡ xs ++ take (count - length xs) ys
take-past xs ys count past =
    let split : count ≡ length xs + (count - length xs) = omega arith in
    ap (λ (n : ℕ). take n (xs ++ ys)) split ∙ take-append-add xs ys (count - length xs)

-- beginnings of one list that have one length
pub take-same : {A : Type 0} (xs : List A) (count other : ℕ) → length (take count xs) ≡ length (take other xs)
    → take count xs ≡ take other xs
take-same xs zero zero same = refl
take-same [] zero (suc other) same = refl
take-same [] (suc count) zero same = refl
take-same [] (suc count) (suc other) same = refl
take-same (x ∷ xs) zero (suc other) same = absurd (omega arith)
take-same (x ∷ xs) (suc count) zero same = absurd (omega arith)
take-same (x ∷ xs) (suc count) (suc other) same = ap (λ (t : List _). x ∷ t) (take-same xs count other (omega arith))

-- ---- texts

-- records with others behind
pub records-append : (before : ℕ) (xs ys : List Commit)
    → records_from before (xs ++ ys) ≡ records_from before xs ++ records_from (before + length xs) ys
records-append before [] ys = ap (λ (n : ℕ). records_from n ys) (omega arith)
records-append before (x ∷ xs) ys =
    let same : before + 1 + length xs ≡ before + suc (length xs) = omega arith in
    ap (λ (rest : List ℕ). record_of (before + 1) x ++ rest)
    (records-append (before + 1) xs ys ∙ ap (λ (n : ℕ). records_from (before + 1) xs ++ records_from n ys) same)
    ∙ sym (append_assoc (record_of (before + 1) x) (records_from (before + 1) xs) (records_from (before + suc (length xs)) ys))

-- ---- whole records

-- the records that are counted begin the bytes
pub whole-front : (before : ℕ) (commits : List Commit) (bytes : ℕ)
    → IsBeginning (records_from before (take (whole_in before commits bytes) commits)) (take bytes (records_from before commits))
whole-front before [] bytes = (take bytes [], refl)
whole-front before (commit ∷ commits) bytes =
    by (nat_le (length (record_of (before + 1) commit)) bytes) refl
    (whole-front (before + 1) commits (bytes - length (record_of (before + 1) commit)))
  where
    by : (fits : Bool) → nat_le (length (record_of (before + 1) commit)) bytes ≡ fits
        → IsBeginning (records_from (before + 1)
        (take (whole_in (before + 1) commits (bytes - length (record_of (before + 1) commit))) commits))
        (take (bytes - length (record_of (before + 1) commit)) (records_from (before + 1) commits))
        → IsBeginning (records_from before
        (take (cond fits (suc (whole_in (before + 1) commits (bytes - length (record_of (before + 1) commit)))) 0) (commit ∷ commits)))
        (take bytes (record_of (before + 1) commit ++ records_from (before + 1) commits))
    by false e rest = (take bytes (record_of (before + 1) commit ++ records_from (before + 1) commits), refl)
    by true e rest =
        let one = record_of (before + 1) commit in
        let counted = take (whole_in (before + 1) commits (bytes - length one)) commits in (
          rest.0,
          take-past one (records_from (before + 1) commits) bytes (leb-true (length one) bytes e)
              ∙ ap (λ (t : List ℕ). one ++ t) rest.1
              ∙ sym (append_assoc one (records_from (before + 1) counted) rest.0),
        )

-- no more of them stand in so many bytes
pub whole-most : (before : ℕ) (commits : List Commit) (bytes count : ℕ) → length (records_from before (take count commits)) ≤ bytes
    → length (take count commits) ≤ whole_in before commits bytes
whole-most before commits bytes zero within = omega arith
whole-most before [] bytes (suc count) within = omega arith
whole-most before (commit ∷ commits) bytes (suc count) within =
    by (nat_le (length (record_of (before + 1) commit)) bytes) refl
    (whole-most (before + 1) commits (bytes - length (record_of (before + 1) commit)) count)
    (sizes (record_of (before + 1) commit) (records_from (before + 1) (take count commits)) within)
  where
    sizes : (one rest : List ℕ) → length (one ++ rest) ≤ bytes → length one + length rest ≤ bytes
    sizes one rest h = omega (arith, length-append one rest)

    by : (fits : Bool) → nat_le (length (record_of (before + 1) commit)) bytes ≡ fits
        → (length (records_from (before + 1) (take count commits)) ≤ bytes - length (record_of (before + 1) commit)
        → length (take count commits) ≤ whole_in (before + 1) commits (bytes - length (record_of (before + 1) commit)))
        → length (record_of (before + 1) commit) + length (records_from (before + 1) (take count commits)) ≤ bytes
        → suc (length (take count commits))
        ≤ cond fits (suc (whole_in (before + 1) commits (bytes - length (record_of (before + 1) commit)))) 0
    by false e rest sum =
        let short = leb-false (length (record_of (before + 1) commit)) bytes e in
        absurd (omega arith)
    by true e rest sum =
        let behind = rest (omega arith) in
        omega arith
