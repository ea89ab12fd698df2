-- Gaps, seq by seq and worker by worker.
use Rattle.std.proofs.Common.{◌≡◌, refl, ap, sym, ◌∙◌, arith, inl, inr, ℕ, zero, suc, ◌+◌, ◌-◌, ◌^◌, ◌<◌, ◌≤◌, ◌==◌}
use Rattle.std.proofs.Common.{Bool, true, false, cond, not, ◌&&◌}
use Rattle.std.proofs.Common.{List, [], ◌∷◌, ◌++◌, length, take, drop, get_or, set, subst, nat_le, slice_index, All}
use Rattle.std.proofs.lemmas.Bool.{or_cases, or_right, cond-true, cond-false, eqb-true, leb-true, le-leb}
use Rattle.std.proofs.lemmas.Bool.{and_from, and_right, cond_both}
use Rattle.std.proofs.lemmas.List.{append-nil, take_all, drop_all, take-append-le}
use Rattle.std.proofs.lemmas.List.Elements.{All-append, All-take}
use Rattle.std.proofs.Math.Seq.{drop-cons}
use Rattle.rows.specs.Limits.{frame_window}
use Rattle.update_log.specs.declared.frame.Frame.{Frame}
use Rattle.intake.specs.declared.taken.Taken.{Taken}
use Rattle.intake.specs.declared.taken.Taken.TheVariants.{Repeat, Ahead, Memory, Stored}
use Rattle.intake.specs.Known.{is_known, is_ahead, first_missing_from}
use Rattle.intake.specs.State.{Arrivals, known_of, nothing, arrivals_of}
use Rattle.intake.specs.Steps.{taken, with_frame}
use Rattle.intake.specs.Laws.{FirstMissingIsLeast}
use Rattle.dispatcher.specs.declared.gaps.Gap.{Gap}
use Rattle.dispatcher.specs.Gaps.{is_missing, gaps_among, gaps_between, gaps_from}

-- ---- one seq

known-is-not : (known : List ℕ) (base seq : ℕ) → is_known known seq ≡ true → is_missing known base seq ≡ false
known-is-not known base seq h = ap (λ (b : Bool). not b && not (is_ahead known base seq)) h

ahead-is-not : (known : List ℕ) (base seq : ℕ) → is_ahead known base seq ≡ true → is_missing known base seq ≡ false
ahead-is-not known base seq h = and_right (not (is_known known seq)) (not (is_ahead known base seq)) (ap not h)

-- what is behind a seq that is too far ahead is so as well
ahead-on : (known : List ℕ) (base seq k : ℕ) → seq + 1 < 2 ^ 64 → seq ≤ k → is_ahead known base seq ≡ true → is_ahead known base k ≡ true
ahead-on known base seq k small le h =
    elim (or_cases (seq == 2 ^ 64 - 1) (nat_le (first_missing_from known base + frame_window) seq) h) [
      | inl greatest ↦ (let is = eqb-true seq (2 ^ 64 - 1) greatest in absurd (omega (arith, is, small)))
      | inr far ↦
          (let past = leb-true (first_missing_from known base + frame_window) seq far in
          or_right (k == 2 ^ 64 - 1) (nat_le (first_missing_from known base + frame_window) k)
          (le-leb (first_missing_from known base + frame_window) k (omega (arith, past, le))))
    ]

-- what the answer to a frame tells of its seq
abbrev pub Told : Taken → List ℕ → (base seq : ℕ) → Type 0
Told Stored known base seq = is_missing known base seq ≡ true
Told Ahead known base seq = is_ahead known base seq ≡ true
Told Repeat known base seq = is_missing known base seq ≡ false
Told Memory known base seq = is_missing known base seq ≡ false

told : (known : List ℕ) (base seq : ℕ) (repeat ahead : Bool) (all new : List Arrivals) → is_known known seq ≡ repeat
    → is_ahead known base seq ≡ ahead
    → Told (cond {A = Taken × List Arrivals} repeat (Repeat, all) (cond ahead (Ahead, all) (Stored, new))).0 known base seq
told known base seq true ahead all new is far = known-is-not known base seq is
told known base seq false true all new is far = far
told known base seq false false all new is far =
    and_from (not (is_known known seq)) (not (is_ahead known base seq)) (ap not is) (ap not far)

pub answer-tells : (all : List Arrivals) (bases : List ℕ) (worker seq : ℕ) (answer : Taken)
    → ((frame : Frame) → frame.worker ≡ worker → frame.seq ≡ seq → answer ≡ (taken all bases frame).0)
    → Told answer (known_of all worker) (slice_index bases worker) seq
answer-tells all bases worker seq answer h =
    let frame : Frame = record { worker = worker; seq = seq; commit = 0; last = false; entries = [] } in
    let known = known_of all worker in
    let base = slice_index bases worker in
    subst (λ t. Told t known base seq) (sym (h frame refl refl))
    (told known base seq (is_known known seq) (is_ahead known base seq) all
    (set all worker (with_frame (arrivals_of all worker) frame)) refl refl)

-- ---- the gaps of one worker

module _ (stride worker base : ℕ) (known : List ℕ) where
  abbrev among : ℕ → ℕ → ℕ → List Gap
  among left seq covered = gaps_among stride worker base known left seq covered

  less-one : (left seq covered : ℕ) → among left seq covered ≡ among (suc left - 1) seq covered
  less-one left seq covered = let e : left ≡ suc left - 1 = omega arith in ap (λ l. among l seq covered) e

  -- one that is covered is passed over
  among-covered : (left seq covered : ℕ) → 0 < left → 0 < covered → among left seq covered ≡ among (left - 1) (seq + 1) (covered - 1)
  among-covered zero seq covered some more = absurd (omega (arith, some))
  among-covered (suc left) seq zero some more = absurd (omega (arith, more))
  among-covered (suc left) seq (suc covered) some more =
      let e : covered ≡ suc covered - 1 = omega arith in
      ap (λ c. among left (seq + 1) c) e ∙ less-one left (seq + 1) (suc covered - 1)

  -- one that is missing is a gap
  among-missing : (left seq : ℕ) → 0 < left → is_missing known base seq ≡ true
      → among left seq 0 ≡ record { worker = worker; seq = seq } ∷ among (left - 1) (seq + 1) (stride - 1)
  among-missing zero seq some h = absurd (omega (arith, some))
  among-missing (suc left) seq some h =
      cond-true (is_missing known base seq) (record { worker = worker; seq = seq } ∷ among left (seq + 1) (stride - 1))
      (among left (seq + 1) 0) h
      ∙ ap (λ gaps. record { worker = worker; seq = seq } ∷ gaps) (less-one left (seq + 1) (stride - 1))

  -- and another is none
  among-other : (left seq : ℕ) → 0 < left → is_missing known base seq ≡ false → among left seq 0 ≡ among (left - 1) (seq + 1) 0
  among-other zero seq some h = absurd (omega (arith, some))
  among-other (suc left) seq some h =
      cond-false (is_missing known base seq) (record { worker = worker; seq = seq } ∷ among left (seq + 1) (stride - 1))
      (among left (seq + 1) 0) h
      ∙ less-one left (seq + 1) 0

  none-missing : (left seq : ℕ) → ((k : ℕ) → seq ≤ k → is_missing known base k ≡ false) → among left seq 0 ≡ []
  none-missing zero seq none = refl
  none-missing (suc left) seq none =
      among-other (suc left) seq (omega arith) (none seq (omega arith))
      ∙ (sym (less-one left (seq + 1) 0) ∙ none-missing left (seq + 1) (λ k le. none k (omega (arith, le))))

  -- there are none from a seq on that is too far ahead
  pub none-ahead : (left seq : ℕ) → seq + 1 < 2 ^ 64 → is_ahead known base seq ≡ true → among left seq 0 ≡ []
  none-ahead left seq small h = none-missing left seq (λ k le. ahead-is-not known base k (ahead-on known base seq k small le h))

  passed : (n left seq : ℕ) → ((k : ℕ) → seq ≤ k → k < seq + n → is_missing known base k ≡ false)
      → among left seq 0 ≡ among (left - n) (seq + n) 0
  passed zero left seq none =
      let l : left ≡ left - 0 = omega arith in
      let s : seq ≡ seq + 0 = omega arith in
      ap (λ x. among x seq 0) l ∙ ap (λ x. among (left - 0) x 0) s
  passed (suc n) zero seq none =
      let l : 0 ≡ 0 - suc n = omega arith in
      ap (λ x. among x (seq + suc n) 0) l
  passed (suc n) (suc left) seq none =
      let l : left - n ≡ suc left - suc n = omega arith in
      let s : (seq + 1) + n ≡ seq + suc n = omega arith in
      among-other (suc left) seq (omega arith) (none seq (omega arith) (omega arith))
      ∙ (sym (less-one left (seq + 1) 0) ∙ passed n left (seq + 1) (λ k up lt. none k (omega (arith, up)) (omega (arith, lt)))
      ∙ (ap (λ x. among x ((seq + 1) + n) 0) l ∙ ap (λ x. among (suc left - suc n) x 0) s))

  -- the first are those from the first missing seq on
  pub from-first : (count : ℕ) → FirstMissingIsLeast
      → among (count - first_missing_from known base) (first_missing_from known base) 0 ≡ among (count - base) base 0
  from-first count law =
      let first = first_missing_from known base in
      let least = law known base in
      let s : base + (first - base) ≡ first = omega (arith, least.up) in
      let l : (count - base) - (first - base) ≡ count - first = omega (arith, least.up) in
      sym (passed (first - base) (count - base) base
      (λ k up lt. known-is-not known base k (least.lower_known k up (omega (arith, lt, least.up))))
      ∙ (ap (λ x. among x (base + (first - base)) 0) l ∙ ap (λ x. among (count - first) x 0) s))

  -- the seqs below a count, one after the other from the first that is missing on
  module _ (count first ahead : ℕ) (there : ahead < count - first) where
    next : (covered : ℕ) → among ((count - (first + ahead)) - 1) ((first + ahead) + 1) covered
        ≡ among (count - (first + (ahead + 1))) (first + (ahead + 1)) covered
    next covered =
        let l : (count - (first + ahead)) - 1 ≡ count - (first + (ahead + 1)) = omega arith in
        let s : (first + ahead) + 1 ≡ first + (ahead + 1) = omega arith in
        ap (λ x. among x ((first + ahead) + 1) covered) l ∙ ap (λ x. among (count - (first + (ahead + 1))) x covered) s

    pub next-covered : (covered : ℕ) → 0 < covered → among (count - (first + ahead)) (first + ahead) covered
        ≡ among (count - (first + (ahead + 1))) (first + (ahead + 1)) (covered - 1)
    next-covered covered more =
        among-covered (count - (first + ahead)) (first + ahead) covered (omega (arith, there)) more ∙ next (covered - 1)

    pub next-missing : is_missing known base (first + ahead) ≡ true → among (count - (first + ahead)) (first + ahead) 0
        ≡ record { worker = worker; seq = first + ahead } ∷ among (count - (first + (ahead + 1))) (first + (ahead + 1)) (stride - 1)
    next-missing h =
        among-missing (count - (first + ahead)) (first + ahead) (omega (arith, there)) h
        ∙ ap (λ gaps. record { worker = worker; seq = first + ahead } ∷ gaps) (next (stride - 1))

    pub next-other : is_missing known base (first + ahead) ≡ false → among (count - (first + ahead)) (first + ahead) 0
        ≡ among (count - (first + (ahead + 1))) (first + (ahead + 1)) 0
    next-other h = among-other (count - (first + ahead)) (first + ahead) (omega (arith, there)) h ∙ next 0

-- ---- the gaps of all workers

-- what is cut after more has come is cut at once
pub take-front : {A : Type 0} (n : ℕ) (xs ys : List A) → take n (take n xs ++ ys) ≡ take n (xs ++ ys)
take-front zero xs ys = refl
take-front (suc n) [] ys = refl
take-front (suc n) (x ∷ xs) ys = ap (λ zs. x ∷ zs) (take-front n xs ys)

-- nothing is left to be pushed
pub take-none : {A : Type 0} (n : ℕ) (xs rest : List A) → length xs ≤ n → rest ≡ [] → take n (xs ++ rest) ≡ xs
take-none n xs rest few none = ap (λ ys. take n (xs ++ ys)) none ∙ (ap (take n) (append-nil xs) ∙ take_all n xs few)

-- there is no room for more
pub take-full : {A : Type 0} (n : ℕ) (xs rest : List A) → length xs ≤ n → n ≤ length xs → take n (xs ++ rest) ≡ xs
take-full n xs rest few full = take-append-le n xs rest full ∙ take_all n xs few

pub from-step : (stride worker : ℕ) (all : List Arrivals) (bases counts : List ℕ) → worker < length all → worker < length counts
    → gaps_from stride worker (drop worker all) bases (drop worker counts)
    ≡ gaps_between stride worker (known_of all worker) (slice_index bases worker) (get_or counts worker 0)
    ++ gaps_from stride (worker + 1) (drop (worker + 1) all) bases (drop (worker + 1) counts)
from-step stride worker all bases counts there counted =
    let next : suc worker ≡ worker + 1 = omega arith in
    ap (λ left. gaps_from stride worker left bases (drop worker counts)) (drop-cons all worker nothing there)
    ∙ (ap (λ left. gaps_from stride worker (get_or all worker nothing ∷ drop (suc worker) all) bases left)
    (drop-cons counts worker 0 counted)
    ∙ ap (λ n. gaps_between stride worker (known_of all worker) (slice_index bases worker) (get_or counts worker 0)
    ++ gaps_from stride (worker + 1) (drop n all) bases (drop n counts)) next)

none-of-none : (stride worker : ℕ) (all : List Arrivals) (bases : List ℕ) → gaps_from stride worker all bases [] ≡ []
none-of-none stride worker [] bases = refl
none-of-none stride worker (arrivals ∷ all) bases = refl

pub from-end : (stride worker : ℕ) (all : List Arrivals) (bases counts : List ℕ) → length counts ≤ worker
    → gaps_from stride worker (drop worker all) bases (drop worker counts) ≡ []
from-end stride worker all bases counts past =
    ap (λ left. gaps_from stride worker (drop worker all) bases left) (drop_all worker counts past)
    ∙ none-of-none stride worker (drop worker all) bases

pub from-no-worker : (stride worker : ℕ) (all : List Arrivals) (bases counts : List ℕ) → length all ≤ worker
    → gaps_from stride worker (drop worker all) bases (drop worker counts) ≡ []
from-no-worker stride worker all bases counts past =
    ap (λ left. gaps_from stride worker left bases (drop worker counts)) (drop_all worker all past)

-- ---- each gap is of a worker that is there

all-none : {A : Type 0} (P : A → Type 0) → All P []
all-none P k d lt = absurd (omega (arith, lt))

all-more : {A : Type 0} (P : A → Type 0) (x : A) (xs : List A) → P x → All P xs → All P (x ∷ xs)
all-more P x xs p all zero d lt = p
all-more P x xs p all (suc k) d lt = all k d (omega (arith, lt))

abbrev IsBelow : ℕ → Gap → Type 0
IsBelow bound gap = gap.worker < bound

among-below : (stride worker base bound : ℕ) (known : List ℕ) (left seq covered : ℕ) → worker < bound
    → All (IsBelow bound) (gaps_among stride worker base known left seq covered)
among-below stride worker base bound known zero seq covered lt = all-none (IsBelow bound)
among-below stride worker base bound known (suc left) seq (suc covered) lt =
    among-below stride worker base bound known left (seq + 1) covered lt
among-below stride worker base bound known (suc left) seq zero lt =
    cond_both (is_missing known base seq)
    (record { worker = worker; seq = seq } ∷ gaps_among stride worker base known left (seq + 1) (stride - 1))
    (gaps_among stride worker base known left (seq + 1) 0) (All (IsBelow bound))
    (λ h. all-more (IsBelow bound) (record { worker = worker; seq = seq })
    (gaps_among stride worker base known left (seq + 1) (stride - 1)) lt
    (among-below stride worker base bound known left (seq + 1) (stride - 1) lt))
    (λ h. among-below stride worker base bound known left (seq + 1) 0 lt)

from-below : (stride worker bound : ℕ) (all : List Arrivals) (bases counts : List ℕ) → worker + length all ≤ bound
    → All (IsBelow bound) (gaps_from stride worker all bases counts)
from-below stride worker bound [] bases counts few = all-none (IsBelow bound)
from-below stride worker bound (arrivals ∷ all) bases [] few = all-none (IsBelow bound)
from-below stride worker bound (arrivals ∷ all) bases (count ∷ counts) few =
    let base = slice_index bases worker in
    All-append (IsBelow bound) (gaps_between stride worker arrivals.known base count) (gaps_from stride (worker + 1) all bases counts)
    (among-below stride worker base bound arrivals.known (count - base) base 0 (omega (arith, few)))
    (from-below stride (worker + 1) bound all bases counts (omega (arith, few)))

pub pushed-below : (stride most bound : ℕ) (all : List Arrivals) (bases counts : List ℕ) (gaps before : List Gap) → length all ≤ bound
    → before ≡ [] → gaps ≡ take most (before ++ gaps_from stride 0 all bases counts) → All (IsBelow bound) gaps
pushed-below stride most bound all bases counts gaps before few none is =
    subst (All (IsBelow bound)) (sym (is ∙ ap (λ xs. take most (xs ++ gaps_from stride 0 all bases counts)) none))
    (All-take (IsBelow bound) most (gaps_from stride 0 all bases counts) (from-below stride 0 bound all bases counts (omega (arith, few))))
