-- The last number of each seat, as one more commit is noted.
use Rattle.std.proofs.Common.{◌≡◌, refl, ap, sym, ◌∙◌, arith, ℕ, zero, suc, ◌+◌, ◌<◌, ◌≤◌, Bool, true, false, ◌==◌, if◌then◌else◌}
use Rattle.std.proofs.Common.{List, [], ◌∷◌, ◌++◌, length, Some, slice_set, length-append}
use Rattle.std.specs.List.{slice_get}
use Rattle.std.proofs.lemmas.Bool.{eqb-true, eq-eqb}
use Rattle.primary.specs.State.{Primary}
use Rattle.std.proofs.lemmas.List.{length-set}
use Rattle.desk.specs.Keeping.{commit_count, last_carried, last_number}
use Rattle.desk.specs.Inner.Noted.{Noted, IsNoted}

-- no seat has a number above those of the commits
pub last_within : (seat last before : ℕ) (seats : List ℕ) → last ≤ before → last_carried seat last before seats ≤ before + length seats
last_within seat last before [] le = omega (arith, le)
last_within seat last before (carried ∷ seats) le =
    by (carried == seat) (last_within seat (before + 1) (before + 1) seats (omega arith))
    (last_within seat last (before + 1) seats (omega (arith, le)))
  where
    by : (own : Bool) → last_carried seat (before + 1) (before + 1) seats ≤ before + 1 + length seats
        → last_carried seat last (before + 1) seats ≤ before + 1 + length seats
        → last_carried seat (if own then before + 1 else last) (before + 1) seats ≤ before + suc (length seats)
    by true mine others = omega (arith, mine)
    by false mine others = omega (arith, others)

-- one more commit has the next number
pub last_snoc : (seat last before carried : ℕ) (seats : List ℕ)
    → last_carried seat last before (seats ++ carried ∷ [])
    ≡ (if carried == seat then before + length seats + 1 else last_carried seat last before seats)
last_snoc seat last before carried [] = ap (λ n. if carried == seat then n else last) (omega arith)
last_snoc seat last before carried (other ∷ seats) =
    let then_last = (if other == seat then before + 1 else last) in
    last_snoc seat then_last (before + 1) carried seats
    ∙ ap (λ n. if carried == seat then n else last_carried seat then_last (before + 1) seats) (omega arith)

get-set_same : (xs : List ℕ) (i x : ℕ) → i < length xs → slice_get (slice_set xs i x) i ≡ Some x
get-set_same [] i x lt = absurd (omega arith)
get-set_same (y ∷ xs) zero x lt = refl
get-set_same (y ∷ xs) (suc i) x lt = get-set_same xs i x (omega arith)

get-set_other : (xs : List ℕ) (i j x : ℕ) → (i ≡ j → ⊥) → slice_get (slice_set xs i x) j ≡ slice_get xs j
get-set_other [] i j x other = refl
get-set_other (y ∷ xs) zero zero x other = absurd (other refl)
get-set_other (y ∷ xs) zero (suc j) x other = refl
get-set_other (y ∷ xs) (suc i) zero x other = refl
get-set_other (y ∷ xs) (suc i) (suc j) x other = get-set_other xs i j x (λ e. other (ap suc e))

-- the last numbers, with that of the seat of one more commit
pub lasts_snoc : (first : Primary) (count : ℕ) (seats lasts : List ℕ) (carried number : ℕ) → length lasts ≡ count
    → ((seat : ℕ) → seat < count → slice_get lasts seat ≡ Some (last_number first seats seat))
    → carried < count → number ≡ commit_count first + length seats + 1
    → (seat : ℕ) → seat < count → slice_get (slice_set lasts carried number) seat ≡ Some (last_number first (seats ++ carried ∷ []) seat)
lasts_snoc first count seats lasts carried number manned are there is seat below =
    by (carried == seat) refl
  where
    snoc : last_number first (seats ++ carried ∷ []) seat
        ≡ (if carried == seat then commit_count first + length seats + 1 else last_number first seats seat)
    snoc = last_snoc seat 0 (commit_count first) carried seats

    by : (own : Bool) → (carried == seat) ≡ own
        → slice_get (slice_set lasts carried number) seat ≡ Some (last_number first (seats ++ carried ∷ []) seat)
    by true e =
        let same : carried ≡ seat = eqb-true carried seat e in
        ap (slice_get (slice_set lasts carried number)) (sym same)
        ∙ get-set_same lasts carried number (omega (arith, manned, there))
        ∙ ap Some (is ∙ sym (snoc ∙ ap (λ b. if b then commit_count first + length seats + 1 else last_number first seats seat) e))
    by false e =
        get-set_other lasts carried seat number (λ same. absurd (cc (e, eq-eqb carried seat same)))
        ∙ are seat below
        ∙ ap Some (sym (snoc ∙ ap (λ b. if b then commit_count first + length seats + 1 else last_number first seats seat) e))

-- a list of zeros, with one more
pub zeros_more : (xs : List ℕ) → ((i : ℕ) → i < length xs → slice_get xs i ≡ Some 0) → (i : ℕ) → i < length (xs ++ 0 ∷ [])
    → slice_get (xs ++ 0 ∷ []) i ≡ Some 0
zeros_more [] are zero lt = refl
zeros_more [] are (suc i) lt = absurd (omega arith)
zeros_more (x ∷ xs) are zero lt = are zero (omega arith)
zeros_more (x ∷ xs) are (suc i) lt = zeros_more xs (λ j below. are (suc j) (omega (arith, below))) i (omega arith)

-- a roster stays one with one more commit
pub noted_snoc : (first : Primary) (count : ℕ) (noted : Noted) (carried number total room : ℕ) → IsNoted first count noted
    → carried < count → number ≡ commit_count first + length noted.seats + 1 → total ≡ noted.total + 1
    → IsNoted first count (record {
      seats = noted.seats ++ carried ∷ [];
      lasts = slice_set noted.lasts carried number;
      total = total;
      room = room;
    })
noted_snoc first count noted carried number total room is there next one = record {
  counted = (let more = length-append noted.seats (carried ∷ []) in omega (arith, is.counted, one, more));
  manned = length-set noted.lasts carried number ∙ is.manned;
  lasts = lasts_snoc first count noted.seats noted.lasts carried number is.manned is.lasts there next;
}
