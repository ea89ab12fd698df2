-- Which seq is the first that is missing.
use Rattle.std.proofs.Common.{◌≡◌, ℕ, zero, suc, ◌+◌, ◌-◌, ◌<◌, ◌≤◌, true, false, List, length, refl, ap, ◌∙◌, subst, inl, inr}
use Rattle.std.proofs.Common.{arith, add-one}
use Rattle.std.proofs.lemmas.Bool.{cond-true, cond-false, cases_Bool, cases_lt}
use Rattle.intake.specs.Known.{is_known, missing_from, first_missing}

-- the walk stops at a seq that is not known
pub missing_from-unknown : (count seq : ℕ) (known : List ℕ) → is_known known seq ≡ false → missing_from count seq known ≡ seq
missing_from-unknown zero seq known h = refl
missing_from-unknown (suc count) seq known h = cond-false (is_known known seq) _ seq h

-- and goes on at one that is
pub missing_from-known : (end seq : ℕ) (known : List ℕ) → seq < end → is_known known seq ≡ true
    → missing_from (end - seq) seq known ≡ missing_from (end - (seq + 1)) (seq + 1) known
missing_from-known end seq known below h =
    let more : end - seq ≡ suc (end - (seq + 1)) = omega arith in
    ap (λ count. missing_from count seq known) more ∙ cond-true (is_known known seq) _ seq h

-- the walk from 0 is the walk from a seq before which each is known
pub missing_from-passed : (end from : ℕ) (known : List ℕ) → from ≤ end → ((seq : ℕ) → seq < from → is_known known seq ≡ true)
    → missing_from end 0 known ≡ missing_from (end - from) from known
missing_from-passed end zero known within below = (let all : end ≡ end - 0 = omega arith in ap (λ count. missing_from count 0 known) all)
missing_from-passed end (suc from) known within below =
    rw add-one at (missing_from-passed end from known (omega arith) (λ seq h. below seq (omega arith))
    ∙ missing_from-known end from known (omega arith) (below from (omega arith)))

-- where all before a seq are known and it is not, it is the first that is missing
pub first_missing-at : (seq : ℕ) (known : List ℕ) → seq ≤ length known → ((other : ℕ) → other < seq → is_known known other ≡ true)
    → is_known known seq ≡ false → first_missing known ≡ seq
first_missing-at seq known within below here =
    missing_from-passed (length known) seq known within below ∙ missing_from-unknown (length known - seq) seq known here

-- a seq that is known, where the first is and each behind it up to this one
known_or_past : (from seq : ℕ) (known : List ℕ) → from ≤ seq → is_known known from ≡ true → (from < seq → is_known known seq ≡ true)
    → is_known known seq ≡ true
known_or_past from seq known low here past =
    elim (cases_lt from seq) [
      | inl later ↦ past later
      | inr upto ↦ (let same : from ≡ seq = omega arith in rw same at here)
    ]

-- each seq before the one where the walk stops is known
pub is_known-below : (count from seq : ℕ) (known : List ℕ) → from ≤ seq → seq < missing_from count from known → is_known known seq ≡ true
is_known-below zero from seq known low high = absurd (omega arith)
is_known-below (suc count) from seq known low high =
    elim (cases_Bool (is_known known from)) [
      | inl here ↦ known_or_past from seq known low here
          (λ later. is_known-below count (from + 1) seq known (omega arith)
          (subst (λ n. seq < n) (cond-true (is_known known from) (missing_from count (from + 1) known) from here) high))
      | inr none ↦ absurd (omega (arith, subst (λ n. seq < n) (missing_from-unknown (suc count) from known none) high))
    ]
