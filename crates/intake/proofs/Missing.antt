-- The first seq that is missing is the least that is not known, and so is the frame that is lacking.
use Rattle.std.proofs.Common.{◌≡◌, ℕ, zero, suc, ◌+◌, ◌<◌, ◌≤◌, Bool, true, false, cond, ◌==◌, List, [], ◌∷◌, length}
use Rattle.std.proofs.Common.{Option, Some, None, refl, sym, ap, subst, ◌∙◌, inl, inr, arith}
use Rattle.std.specs.Prelude.{nat_le, nat_lt, slice_index}
use Rattle.std.proofs.lemmas.Bool.{cases_lt, cases_Bool, cond-true, eqb-true, ne_eqb, le-leb, lt-leb, ltb-true, ltb-false}
use Rattle.std.proofs.lemmas.Bool.{or_cases, or_from, false≢true}
use Rattle.std.proofs.lemmas.Option.{same_Some, none-some}
use Rattle.intake.specs.Known.{is_known, missing_from, first_missing_from}
use Rattle.intake.specs.State.{Arrivals, known_of}
use Rattle.intake.specs.Steps.{missing_at, lacking_from, lacking}
use Rattle.intake.specs.Laws.{IsLeastFrom, FirstMissingIsLeast, IsComplete, LackingIsLeast, LackingIsOfWorker, NoneLackingIsComplete}
use Rattle.intake.proofs.Seqs.{missing_from-unknown, is_known-below}
use Rattle.intake.proofs.Staying.{from-known}

-- ---- the first seq that is missing

-- how many of the known seqs are this one or above it
abbrev count_from : ℕ → List ℕ → ℕ
count_from from [] = 0
count_from from (key ∷ known) = cond (nat_le from key) 1 0 + count_from from known

-- one that is not below it is counted
counted : (from key : ℕ) (known : List ℕ) → from ≤ key → count_from from (key ∷ known) ≡ 1 + count_from from known
counted from key known h = ap (λ (b : Bool). cond b 1 0 + count_from from known) (le-leb from key h)

-- and one that is below it is not
uncounted : (from key : ℕ) (known : List ℕ) → key < from → count_from from (key ∷ known) ≡ 0 + count_from from known
uncounted from key known h = ap (λ (b : Bool). cond b 1 0 + count_from from known) (lt-leb from key h)

-- there are no more of them than there are known seqs
count-within : (from : ℕ) (known : List ℕ) → count_from from known ≤ length known
count-within from [] = omega arith
count-within from (key ∷ known) = elim (cases_lt key from) [
  | inl below ↦ omega (arith, uncounted from key known below, count-within from known)
  | inr up ↦ omega (arith, counted from key known up, count-within from known)
]

-- and no more from the next seq on
count-falls : (from : ℕ) (known : List ℕ) → count_from (from + 1) known ≤ count_from from known
count-falls from [] = omega arith
count-falls from (key ∷ known) = elim (cases_lt key from) [
  | inl below ↦
      omega (arith, uncounted from key known below, uncounted (from + 1) key known (omega (arith, below)), count-falls from known)
  | inr up ↦ elim (cases_lt key (from + 1)) [
    | inl here ↦ omega (arith, counted from key known up, uncounted (from + 1) key known here, count-falls from known)
    | inr past ↦ omega (arith, counted from key known up, counted (from + 1) key known past, count-falls from known)
  ]
]

-- a seq that is known, where the first is another one
known-later : (key seq : ℕ) (known : List ℕ) → (key ≡ seq → ⊥) → is_known (key ∷ known) seq ≡ true → is_known known seq ≡ true
known-later key seq known apart h = elim (or_cases (key == seq) (is_known known seq) h) [
  | inl here ↦ absurd (apart (eqb-true key seq here))
  | inr later ↦ later
]

-- and fewer where this one is known
count-less : (from : ℕ) (known : List ℕ) → is_known known from ≡ true → count_from (from + 1) known < count_from from known
count-less from [] h = absurd (false≢true h)
count-less from (key ∷ known) h = elim (cases_lt key from) [
  | inl below ↦
      omega (
        arith,
        uncounted from key known below,
        uncounted (from + 1) key known (omega (arith, below)),
        count-less from known (known-later key from known (λ same. omega (arith, same, below)) h),
      )
  | inr up ↦ elim (cases_lt key (from + 1)) [
    | inl here ↦ omega (arith, counted from key known up, uncounted (from + 1) key known here, count-falls from known)
    | inr past ↦
        omega (
          arith,
          counted from key known up,
          counted (from + 1) key known past,
          count-less from known (known-later key from known (λ same. omega (arith, same, past)) h),
        )
  ]
]

-- where none is counted, the seq is not known
count-none : (from : ℕ) (known : List ℕ) → count_from from known ≤ 0 → is_known known from ≡ false
count-none from [] none = refl
count-none from (key ∷ known) none = elim (cases_lt key from) [
  | inl below ↦
      or_from (key == from) (is_known known from) (ne_eqb key from (λ same. omega (arith, same, below)))
      (count-none from known (omega (arith, none, uncounted from key known below)))
  | inr up ↦ absurd (omega (arith, none, counted from key known up))
]

-- a walk of as many steps as there are known seqs to pass ends at one that is not known
missing-unknown : (count from : ℕ) (known : List ℕ) → count_from from known ≤ count → is_known known (missing_from count from known) ≡ false
missing-unknown zero from known few = count-none from known few
missing-unknown (suc count) from known few = elim (cases_Bool (is_known known from)) [
  | inl here ↦
      ap (λ (seq : ℕ). is_known known seq) (cond-true (is_known known from) (missing_from count (from + 1) known) from here)
      ∙ missing-unknown count (from + 1) known (omega (arith, few, count-less from known here))
  | inr none ↦ ap (λ (seq : ℕ). is_known known seq) (missing_from-unknown (suc count) from known none) ∙ none
]

-- the walk does not go back
missing_from-up : (count from : ℕ) (known : List ℕ) → from ≤ missing_from count from known
missing_from-up zero from known = omega arith
missing_from-up (suc count) from known = elim (cases_Bool (is_known known from)) [
  | inl here ↦
      omega (
        arith,
        missing_from-up count (from + 1) known,
        cond-true (is_known known from) (missing_from count (from + 1) known) from here,
      )
  | inr none ↦ omega (arith, missing_from-unknown (suc count) from known none)
]

pub first-least : FirstMissingIsLeast
first-least known base = record {
  up = missing_from-up (length known) base known;
  unknown = missing-unknown (length known) base known (count-within base known);
  lower_known = λ other low high. is_known-below (length known) base other known low high;
}

-- there is one least seq
pub least-first : (known : List ℕ) (base seq : ℕ) → IsLeastFrom known base seq → seq ≡ first_missing_from known base
least-first known base seq one = by (first_missing_from known base) (first-least known base)
  where
    by : (other : ℕ) → IsLeastFrom known base other → seq ≡ other
    by other two = elim (cases_lt seq other) [
      | inl below ↦ absurd (false≢true (sym one.unknown ∙ two.lower_known seq one.up below))
      | inr past ↦ elim (cases_lt other seq) [
        | inl below ↦ absurd (false≢true (sym two.unknown ∙ one.lower_known other two.up below))
        | inr same ↦ omega (arith, past, same)
      ]
    ]

-- ---- the frame that is lacking

-- a worker lacks none where its first missing seq is not below its count
complete-from : (known : List ℕ) (base count : ℕ) → count ≤ first_missing_from known base → (seq : ℕ) → base ≤ seq → seq < count
    → is_known known seq ≡ true
complete-from known base count past seq low below = (first-least known base).lower_known seq low (omega (arith, past, below))

-- what is lacking among these workers, of whom the first is this one
record IsLacking (from : ℕ) (all : List Arrivals) (bases counts : List ℕ) (missing : ℕ × ℕ) : Type 0 where
  index : ℕ
  worker_is : missing.0 ≡ from + index
  there : index < length all
  below : missing.1 < slice_index counts index
  least : IsLeastFrom (known_of all index) (slice_index bases missing.0) missing.1
  lesser : (worker : ℕ) → worker < index → (seq : ℕ) → slice_index bases (from + worker) ≤ seq → seq < slice_index counts worker
      → is_known (known_of all worker) seq ≡ true

-- the first worker lacks a frame
least-here : (from : ℕ) (one : Arrivals) (all : List Arrivals) (bases : List ℕ) (count : ℕ) (counts : List ℕ) (missing : ℕ × ℕ)
    → missing_at bases from one < count → ◌≡◌ {A = ℕ × ℕ} (from, missing_at bases from one) missing
    → IsLacking from (one ∷ all) bases (count ∷ counts) missing
least-here from one all bases count counts missing lacks same =
    subst (IsLacking from (one ∷ all) bases (count ∷ counts)) same (record {
      index = 0;
      worker_is = omega arith;
      there = omega arith;
      below = lacks;
      least = first-least one.known (slice_index bases from);
      lesser = λ worker lesser. absurd (omega (arith, lesser));
    })

-- it lacks none, and another one does
least-behind : (from : ℕ) (one : Arrivals) (all : List Arrivals) (bases : List ℕ) (count : ℕ) (counts : List ℕ) (missing : ℕ × ℕ)
    → count ≤ missing_at bases from one → IsLacking (from + 1) all bases counts missing
    → IsLacking from (one ∷ all) bases (count ∷ counts) missing
least-behind from one all bases count counts missing complete behind = record {
  index = suc behind.index;
  worker_is = omega (arith, behind.worker_is);
  there = omega (arith, behind.there);
  below = behind.below;
  least = behind.least;
  lesser = lesser;
}
  where
    lesser : (worker : ℕ) → worker < suc behind.index → (seq : ℕ) → slice_index bases (from + worker) ≤ seq
        → seq < slice_index (count ∷ counts) worker → is_known (known_of (one ∷ all) worker) seq ≡ true
    lesser zero within seq low high =
        let same : from + 0 ≡ from = omega arith in
        complete-from one.known (slice_index bases from) count complete seq
        (subst (λ (n : ℕ). slice_index bases n ≤ seq) same low) high
    lesser (suc worker) within seq low high =
        let same : from + suc worker ≡ (from + 1) + worker = omega arith in
        behind.lesser worker (omega (arith, within)) seq (subst (λ (n : ℕ). slice_index bases n ≤ seq) same low) high

from-least : (from : ℕ) (all : List Arrivals) (bases counts : List ℕ) (missing : ℕ × ℕ)
    → lacking_from from all bases counts ≡ Some missing → IsLacking from all bases counts missing
from-least from [] bases counts missing h = absurd (none-some missing h)
from-least from (one ∷ all) bases [] missing h = absurd (none-some missing h)
from-least from (one ∷ all) bases (count ∷ counts) missing h =
    by (from-least (from + 1) all bases counts missing) (nat_lt (missing_at bases from one) count) refl h
  where
    by : (lacking_from (from + 1) all bases counts ≡ Some missing → IsLacking (from + 1) all bases counts missing) → (lacks : Bool)
        → nat_lt (missing_at bases from one) count ≡ lacks
        → cond lacks (Some (from, missing_at bases from one)) (lacking_from (from + 1) all bases counts) ≡ Some missing
        → IsLacking from (one ∷ all) bases (count ∷ counts) missing
    by behind true e h =
        least-here from one all bases count counts missing (ltb-true (missing_at bases from one) count e)
        (same_Some (from, missing_at bases from one) missing h)
    by behind false e h =
        least-behind from one all bases count counts missing (ltb-false (missing_at bases from one) count e) (behind h)

pub lacking-least : LackingIsLeast
lacking-least all bases counts missing h =
    let found = from-least 0 all bases counts missing h in
    let same : found.index ≡ missing.0 = omega (arith, found.worker_is) in
    record {
      there = omega (arith, found.there, same);
      below = subst (λ (worker : ℕ). missing.1 < slice_index counts worker) same found.below;
      least = subst (λ (worker : ℕ). IsLeastFrom (known_of all worker) (slice_index bases missing.0) missing.1) same found.least;
      lesser_complete = λ worker lesser seq low high.
          let at : 0 + worker ≡ worker = omega arith in
          found.lesser worker (omega (arith, lesser, same)) seq (subst (λ (n : ℕ). slice_index bases n ≤ seq) (sym at) low) high;
    }

pub lacking-worker : LackingIsOfWorker
lacking-worker all bases counts missing h = (lacking-least all bases counts missing h).there

-- none is named where each worker is complete
complete-none : (all : List Arrivals) (bases counts : List ℕ) (found : Option (ℕ × ℕ)) → lacking all bases counts ≡ found
    → ((worker : ℕ) → worker < length all → IsComplete all bases counts worker) → lacking all bases counts ≡ None
complete-none all bases counts None e complete = e
complete-none all bases counts (Some missing) e complete =
    let lacks = lacking-least all bases counts missing e in
    absurd (false≢true (sym lacks.least.unknown ∙ complete missing.0 lacks.there missing.1 lacks.least.up lacks.below))

pub none-complete : NoneLackingIsComplete
none-complete all bases counts = (
  λ none worker within seq low high.
      let at : 0 + worker ≡ worker = omega arith in
      from-known 0 all bases counts worker seq none within (subst (λ (n : ℕ). slice_index bases n ≤ seq) (sym at) low) high,
  λ complete. complete-none all bases counts (lacking all bases counts) refl complete,
)
