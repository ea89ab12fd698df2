-- Known seqs that are held as the first missing one and those above it: which are known, and what one more makes of them.
use Rattle.std.proofs.Common.{◌≡◌, ℕ, zero, suc, ◌+◌, ◌-◌, ◌^◌, ◌<◌, ◌≤◌, Bool, true, false, ◌||◌, ◌==◌, List, [], ◌∷◌, ◌++◌, length}
use Rattle.std.proofs.Common.{Option, Some, None}
use Rattle.std.proofs.Common.{refl, sym, ap, subst, ◌∙◌, inl, inr, arith, add-one, append_assoc, length-append}
use Rattle.std.specs.Prelude.{nat_lt, nat_le, ◌↔◌, IsSome, IfSome}
use Rattle.std.specs.List.{range_with_len, list_any, AllByRecursion, All}
use Rattle.std.specs.Ordering.{nat_cmp, match_ordering}
use Rattle.std.specs.declared.cmp.Ordering.{Ordering}
use Rattle.std.specs.declared.cmp.Ordering.TheVariants.{Less, Equal, Greater}
use Rattle.std.specs.BTreeMap.{is_at}
use Rattle.std.specs.BTreeSet.{insert_key}
use Rattle.std.proofs.lemmas.Bool.{cases_eq, cases_lt, lt-ltb, le-ltb, eq-eqb, ne_eqb, eqb-true, or_cases, or_from, or_left, or_right}
use Rattle.std.proofs.lemmas.Bool.{false≢true, cases_Bool, cond-true, cond-false, le-leb, lt-leb, leb-true, leb-false, ltb-true}
use Rattle.std.proofs.lemmas.Bool.Decides.{nat_tests}
use Rattle.std.proofs.lemmas.List.FromFn.{length-range_with_len}
use Rattle.std.proofs.lemmas.List.Elements.{recursion_from_All}
use Rattle.intake.specs.Known.{is_known, with_seq, with_below, first_missing, first_missing_from, is_ahead}
use Rattle.intake.specs.Inner.Held.{seqs_in, seqs_from, begins_at, begins_under, AreAtLeast, AreBelow, IsPassed}
use Rattle.intake.proofs.Seqs.{first_missing-at}

-- ---- which seqs are known

or_joined : (a b c : Bool) → (a || (b || c)) ≡ ((a || b) || c)
or_joined true b c = refl
or_joined false b c = refl

is_known-append : (front back : List ℕ) (seq : ℕ) → is_known (front ++ back) seq ≡ (is_known front seq || is_known back seq)
is_known-append [] back seq = refl
is_known-append (key ∷ front) back seq =
    ap (λ b. (key == seq) || b) (is_known-append front back seq) ∙ or_joined (key == seq) (is_known front seq) (is_known back seq)

range-known : (first count seq : ℕ) → first ≤ seq → seq < first + count → is_known (range_with_len first count) seq ≡ true
range-known first zero seq low high = absurd (omega arith)
range-known first (suc count) seq low high = elim (cases_eq first seq) [
  | inl same ↦ or_left (first == seq) (is_known (range_with_len (first + 1) count) seq) (eq-eqb first seq same)
  | inr other ↦ or_right (first == seq) (is_known (range_with_len (first + 1) count) seq)
      (range-known (first + 1) count seq (omega arith) (omega arith))
]

range-unknown : (first count seq : ℕ) → first + count ≤ seq → is_known (range_with_len first count) seq ≡ false
range-unknown first zero seq past = refl
range-unknown first (suc count) seq past =
    or_from (first == seq) (is_known (range_with_len (first + 1) count) seq) (ne_eqb first seq (λ same. omega arith))
    (range-unknown (first + 1) count seq (omega arith))

-- all below the first missing seq are known, and those above it that are held
pub is_known-held : (missing : ℕ) (above : List ℕ) (seq : ℕ)
    → is_known (seqs_in missing above) seq ≡ (nat_lt seq missing || is_known above seq)
is_known-held missing above seq =
    is_known-append (range_with_len 0 missing) above seq ∙ ap (λ b. b || is_known above seq) below
  where
    below : is_known (range_with_len 0 missing) seq ≡ nat_lt seq missing
    below = elim (cases_lt seq missing) [
      | inl before ↦ range-known 0 missing seq (omega arith) (omega arith) ∙ sym (lt-ltb seq missing before)
      | inr past ↦ range-unknown 0 missing seq (omega arith) ∙ sym (le-ltb seq missing past)
    ]

-- a set finds a key where it is known
pub is_known-found : (seq : ℕ) (keys : List ℕ) → list_any (is_at (nat_cmp seq)) keys ≡ is_known keys seq
is_known-found seq [] = refl
is_known-found seq (key ∷ keys) = grind (arith, nat_tests, is_known-found seq keys)

-- a seq below all is not among them
pub is_known-from : (first seq : ℕ) (above : List ℕ) → seq < first → AreAtLeast first above → is_known above seq ≡ false
is_known-from first seq [] below from = refl
is_known-from first seq (key ∷ above) below from =
    or_from (key == seq) (is_known above seq) (ne_eqb key seq (λ same. omega (arith, from.0))) (is_known-from first seq above below from.1)

-- the first that is missing
pub first_missing-held : (missing : ℕ) (above : List ℕ) → AreAtLeast (missing + 1) above → first_missing (seqs_in missing above) ≡ missing
first_missing-held missing above from =
    let len : length (seqs_in missing above) ≡ missing + length above =
    length-append (range_with_len 0 missing) above ∙ ap (λ n. n + length above) (length-range_with_len 0 missing) in
    first_missing-at missing (seqs_in missing above) (omega (arith, len))
    (λ seq h. is_known-held missing above seq ∙ or_left (nat_lt seq missing) (is_known above seq) (lt-ltb seq missing h))
    (is_known-held missing above missing
    ∙ or_from (nat_lt missing missing) (is_known above missing) (le-ltb missing missing (omega arith))
    (is_known-from (missing + 1) missing above (omega arith) from))

-- ---- one more seq

range-more : (first count next : ℕ) → first + count ≡ next → range_with_len first (suc count) ≡ range_with_len first count ++ next ∷ []
range-more first zero next is = (let same : first ≡ next = omega arith in ap (λ seq. seq ∷ []) same)
range-more first (suc count) next is = ap (λ seqs. first ∷ seqs) (range-more (first + 1) count next (omega arith))

-- the first missing seq comes: it is the first of those above
pub held-more : (missing : ℕ) (above : List ℕ) → seqs_in (missing + 1) above ≡ seqs_in missing (missing ∷ above)
held-more missing above =
    ap (λ count. range_with_len 0 count ++ above) (add-one missing)
    ∙ ap (λ seqs. seqs ++ above) (range-more 0 missing missing (omega arith))
    ∙ append_assoc (range_with_len 0 missing) (missing ∷ []) above

range-below : (first count seq : ℕ) → first + count ≤ seq → AreBelow seq (range_with_len first count)
range-below first zero seq past = tt
range-below first (suc count) seq past = (omega arith, range-below (first + 1) count seq (omega arith))

above-key : (seq key : ℕ) → key < seq → nat_cmp seq key ≡ Greater
above-key seq key h = grind (arith, nat_tests)

below-key : (seq key : ℕ) → seq < key → nat_cmp seq key ≡ Less
below-key seq key h = grind (arith, nat_tests)

insert-past : (front back : List ℕ) (seq : ℕ) → AreBelow seq front
    → insert_key nat_cmp (front ++ back) seq ≡ front ++ insert_key nat_cmp back seq
insert-past [] back seq below = refl
insert-past (key ∷ front) back seq below =
    ap (λ o. match_ordering o (seq ∷ key ∷ front ++ back) (key ∷ front ++ back) (key ∷ insert_key nat_cmp (front ++ back) seq))
    (above-key seq key below.0)
    ∙ ap (λ keys. key ∷ keys) (insert-past front back seq below.1)

insert-front : (above : List ℕ) (seq : ℕ) → AreAtLeast (seq + 1) above → insert_key nat_cmp above seq ≡ seq ∷ above
insert-front [] seq from = refl
insert-front (key ∷ above) seq from =
    ap (λ o. match_ordering o (seq ∷ key ∷ above) (key ∷ above) (key ∷ insert_key nat_cmp above seq))
    (below-key seq key (omega (arith, from.0)))

-- a seq above the first missing one is put among those above
pub held-insert : (missing : ℕ) (above : List ℕ) (seq : ℕ) → missing ≤ seq
    → with_seq (seqs_in missing above) seq ≡ seqs_in missing (insert_key nat_cmp above seq)
held-insert missing above seq past = insert-past (range_with_len 0 missing) above seq (range-below 0 missing seq (omega arith))

-- the first missing one is passed
pub held-insert_missing : (missing : ℕ) (above : List ℕ) → AreAtLeast (missing + 1) above
    → with_seq (seqs_in missing above) missing ≡ seqs_in (missing + 1) above
held-insert_missing missing above from =
    held-insert missing above missing (omega arith)
    ∙ ap (λ seqs. range_with_len 0 missing ++ seqs) (insert-front above missing from) ∙ sym (held-more missing above)

-- what holds of each and of the new one holds of each then
pub all-insert : (P : ℕ → Type 0) (keys : List ℕ) (key : ℕ) → AllByRecursion P keys → P key → AllByRecursion P (insert_key nat_cmp keys key)
all-insert P [] key h p = (p, tt)
all-insert P (other ∷ keys) key h p = by (all-insert P keys key h.1 p) (nat_cmp key other)
  where
    by : AllByRecursion P (insert_key nat_cmp keys key) → (o : Ordering)
        → AllByRecursion P (match_ordering o (key ∷ other ∷ keys) (other ∷ keys) (other ∷ insert_key nat_cmp keys key))
    by rest Less = (p, h)
    by rest Equal = h
    by rest Greater = (h.0, rest)

-- a seq that is not known is the first missing one or above it
pub unknown-past : (missing : ℕ) (above : List ℕ) (seq : ℕ) → is_known (seqs_in missing above) seq ≡ false → missing ≤ seq
unknown-past missing above seq unknown = elim (cases_lt seq missing) [
  | inl before ↦ absurd (false≢true (sym unknown ∙ is_known-held missing above seq
      ∙ or_left (nat_lt seq missing) (is_known above seq) (lt-ltb seq missing before)))
  | inr past ↦ past
]

-- ---- the first of those above

-- what is taken out of seqs that begin at one is that one
pub begins-popped : (keys rest : List ℕ) (seq : ℕ) (popped : Option ℕ) → begins_at keys seq ≡ true → (IsSome popped ↔ (0 < length keys))
    → IfSome popped (λ key. keys ≡ key ∷ rest) → keys ≡ seq ∷ rest
begins-popped [] rest seq popped begins some is = absurd (false≢true begins)
begins-popped (key ∷ keys) rest seq None begins some is = absurd (false≢true (some.1 (omega arith)))
begins-popped (key ∷ keys) rest seq (Some first) begins some is = (let same : key ≡ seq = eqb-true key seq begins in cc)

less-key : (seq key : ℕ) → nat_cmp seq key ≡ Less → seq + 1 ≤ key
less-key seq key h = grind (arith, nat_tests)

-- and the others are above it
pub begins-rest : (keys rest : List ℕ) (seq : ℕ) (popped : Option ℕ) → begins_at keys seq ≡ true → (IsSome popped ↔ (0 < length keys))
    → IfSome popped (λ key. keys ≡ key ∷ rest) → IfSome popped (λ key. All (λ other. nat_cmp key other ≡ Less) rest)
    → AreAtLeast (seq + 1) rest
begins-rest [] rest seq popped begins some is above = absurd (false≢true begins)
begins-rest (key ∷ keys) rest seq None begins some is above = absurd (false≢true (some.1 (omega arith)))
begins-rest (key ∷ keys) rest seq (Some first) begins some is above =
    let same : key ≡ seq = eqb-true key seq begins in
    let first_is : first ≡ seq = cc in
    later rest (subst (λ (n : ℕ). AllByRecursion (λ other. nat_cmp n other ≡ Less) rest) first_is
    (recursion_from_All (λ other. nat_cmp first other ≡ Less) rest above))
  where
    later : (rest : List ℕ) → AllByRecursion (λ other. nat_cmp seq other ≡ Less) rest → AreAtLeast (seq + 1) rest
    later [] h = tt
    later (other ∷ rest) h = (less-key seq other h.0, later rest h.1)

-- ---- the window

window : (missing seq : ℕ) → nat_le (missing + 4096) seq ≡ nat_le 4096 (seq - missing)
window missing seq = grind (arith, nat_tests)

-- whether a seq other than the greatest is too far ahead
pub ahead-of : (missing base seq : ℕ) (known : List ℕ) → first_missing_from known base ≡ missing → (seq ≡ 2 ^ 64 - 1 → ⊥)
    → nat_le 4096 (seq - missing) ≡ is_ahead known base seq
ahead-of missing base seq known first other =
    sym (ap (λ b. b || nat_le (first_missing_from known base + 4096) seq) (ne_eqb seq (2 ^ 64 - 1) other)
    ∙ ap (λ n. nat_le (n + 4096) seq) first ∙ window missing seq)

-- ---- every seq below a base is gained

-- which seqs are known then
from-same : (base seq : ℕ) (known : List ℕ) → base ≤ seq → is_known (seqs_from base known) seq ≡ is_known known seq
from-same base seq [] low = refl
from-same base seq (key ∷ known) low = elim (cases_Bool (nat_le base key)) [
  | inl stays ↦
      ap (λ (keys : List ℕ). is_known keys seq) (cond-true (nat_le base key) (key ∷ seqs_from base known) (seqs_from base known) stays)
      ∙ ap (λ (b : Bool). (key == seq) || b) (from-same base seq known low)
  | inr goes ↦
      ap (λ (keys : List ℕ). is_known keys seq) (cond-false (nat_le base key) (key ∷ seqs_from base known) (seqs_from base known) goes)
      ∙ from-same base seq known low
      ∙ sym (ap (λ (b : Bool). b || is_known known seq) (ne_eqb key seq (λ same. omega (arith, same, low, leb-false base key goes))))
]

pub below-known : (base : ℕ) (known : List ℕ) (seq : ℕ) → is_known (with_below known base) seq ≡ (nat_lt seq base || is_known known seq)
below-known base known seq = elim (cases_lt seq base) [
  | inl below ↦
      is_known-held base (seqs_from base known) seq
      ∙ or_left (nat_lt seq base) (is_known (seqs_from base known) seq) (lt-ltb seq base below)
      ∙ sym (or_left (nat_lt seq base) (is_known known seq) (lt-ltb seq base below))
  | inr up ↦
      is_known-held base (seqs_from base known) seq ∙ ap (λ (b : Bool). nat_lt seq base || b) (from-same base seq known up)
]

-- those from the base on stay, where none is below it
pub from-all : (base : ℕ) (seqs : List ℕ) → AreAtLeast base seqs → seqs_from base seqs ≡ seqs
from-all base [] from = refl
from-all base (key ∷ seqs) from =
    cond-true (nat_le base key) (key ∷ seqs_from base seqs) (seqs_from base seqs) (le-leb base key from.0)
    ∙ ap (λ (keys : List ℕ). key ∷ keys) (from-all base seqs from.1)

pub from-below : (base key : ℕ) (seqs : List ℕ) → key < base → seqs_from base (key ∷ seqs) ≡ seqs_from base seqs
from-below base key seqs below =
    cond-false (nat_le base key) (key ∷ seqs_from base seqs) (seqs_from base seqs) (lt-leb base key below)

-- the seqs from the base on, of a run and others
from-range : (base first count : ℕ) (rest : List ℕ) → first + count ≤ base
    → seqs_from base (range_with_len first count ++ rest) ≡ seqs_from base rest
from-range base first zero rest past = refl
from-range base first (suc count) rest past =
    from-below base first (range_with_len (first + 1) count ++ rest) (omega (arith, past))
    ∙ from-range base (first + 1) count rest (omega (arith, past))

at-least-up : (low high : ℕ) (seqs : List ℕ) → low ≤ high → AreAtLeast high seqs → AreAtLeast low seqs
at-least-up low high [] up from = tt
at-least-up low high (seq ∷ seqs) up from = (omega (arith, up, from.0), at-least-up low high seqs up from.1)

run-from : (base first count : ℕ) (rest : List ℕ) → first ≤ base → base ≤ first + count → AreAtLeast base rest
    → range_with_len first (base - first) ++ seqs_from base (range_with_len first count ++ rest) ≡ range_with_len first count ++ rest
run-from base first zero rest low high from =
    let same : base - first ≡ 0 = omega arith in
    ap (λ (n : ℕ). range_with_len first n ++ seqs_from base rest) same ∙ from-all base rest from
run-from base first (suc count) rest low high from = elim (cases_lt first base) [
  | inl below ↦
      let more : base - first ≡ suc (base - (first + 1)) = omega arith in
      ap (λ (n : ℕ). range_with_len first n ++ seqs_from base (range_with_len first (suc count) ++ rest)) more
      ∙ ap (λ (keys : List ℕ). range_with_len first (suc (base - (first + 1))) ++ keys)
      (from-below base first (range_with_len (first + 1) count ++ rest) below)
      ∙ ap (λ (keys : List ℕ). first ∷ keys) (run-from base (first + 1) count rest (omega (arith, below)) (omega (arith, high)) from)
  | inr here ↦
      let none : base - first ≡ 0 = omega arith in
      ap (λ (n : ℕ). range_with_len first n ++ seqs_from base (range_with_len first (suc count) ++ rest)) none
      ∙ from-all base (range_with_len first (suc count) ++ rest) (run-at-least base first (suc count) rest here from)
]
  where
    run-at-least : (base first count : ℕ) (rest : List ℕ) → base ≤ first → AreAtLeast base rest
        → AreAtLeast base (range_with_len first count ++ rest)
    run-at-least base first zero rest up from = from
    run-at-least base first (suc count) rest up from = (up, run-at-least base (first + 1) count rest (omega (arith, up)) from)

-- a base that is not above the first missing seq changes nothing
pub held-below : (base missing : ℕ) (above : List ℕ) → base ≤ missing → AreAtLeast (missing + 1) above
    → seqs_in missing above ≡ with_below (seqs_in missing above) base
held-below base missing above low from =
    let all : base - 0 ≡ base = omega arith in
    sym (ap (λ (n : ℕ). range_with_len 0 n ++ seqs_from base (range_with_len 0 missing ++ above)) (sym all)
    ∙ run-from base 0 missing above (omega arith) (omega (arith, low)) (at-least-up base (missing + 1) above (omega (arith, low)) from))

-- one that is above it takes its place, and those below it are no longer held
pub held-gained : (base missing : ℕ) (above : List ℕ) → missing ≤ base
    → seqs_in base (seqs_from base above) ≡ with_below (seqs_in missing above) base
held-gained base missing above up =
    ap (λ (keys : List ℕ). range_with_len 0 base ++ keys) (sym (from-range base 0 missing above (omega (arith, up))))

-- what is taken out of seqs that begin below a base is below it
pub under-popped : (keys rest : List ℕ) (base : ℕ) (popped : Option ℕ) → begins_under keys base ≡ true
    → (IsSome popped ↔ (0 < length keys)) → IfSome popped (λ key. keys ≡ key ∷ rest)
    → (key : ℕ) × (keys ≡ key ∷ rest) × (key < base)
under-popped [] rest base popped begins some is = absurd (false≢true begins)
under-popped (key ∷ keys) rest base None begins some is = absurd (false≢true (some.1 (omega arith)))
under-popped (key ∷ keys) rest base (Some first) begins some is =
    (let same : key ≡ first = cc in (first, is, subst (λ (n : ℕ). n < base) same (ltb-true key base begins)))

-- ---- a base, and the seq up to which each is known from there

-- what is passed stays passed as more is known
pub passed-more : (base next : ℕ) (known more : List ℕ) → ((seq : ℕ) → is_known known seq ≡ true → is_known more seq ≡ true)
    → IsPassed base next known → IsPassed base next more
passed-more base next known more on is = record { up = is.up; passed = λ seq low high. on seq (is.passed seq low high) }

-- what is among those above is known
pub above-known : (missing : ℕ) (above : List ℕ) (seq : ℕ) → is_known above seq ≡ true → is_known (seqs_in missing above) seq ≡ true
above-known missing above seq h = is_known-held missing above seq ∙ or_right (nat_lt seq missing) (is_known above seq) h

-- those from the base on are not below it, and what holds of each of all holds of each of them
pub from-least : (base : ℕ) (seqs : List ℕ) → AreAtLeast base (seqs_from base seqs)
from-least base [] = tt
from-least base (key ∷ seqs) = elim (cases_Bool (nat_le base key)) [
  | inl stays ↦
      subst (AreAtLeast base) (sym (cond-true (nat_le base key) (key ∷ seqs_from base seqs) (seqs_from base seqs) stays))
      (leb-true base key stays, from-least base seqs)
  | inr goes ↦
      subst (AreAtLeast base) (sym (cond-false (nat_le base key) (key ∷ seqs_from base seqs) (seqs_from base seqs) goes))
      (from-least base seqs)
]

pub from-each : (P : ℕ → Type 0) (base : ℕ) (seqs : List ℕ) → AllByRecursion P seqs → AllByRecursion P (seqs_from base seqs)
from-each P base [] all = tt
from-each P base (key ∷ seqs) all = elim (cases_Bool (nat_le base key)) [
  | inl stays ↦
      subst (AllByRecursion P) (sym (cond-true (nat_le base key) (key ∷ seqs_from base seqs) (seqs_from base seqs) stays))
      (all.0, from-each P base seqs all.1)
  | inr goes ↦
      subst (AllByRecursion P) (sym (cond-false (nat_le base key) (key ∷ seqs_from base seqs) (seqs_from base seqs) goes))
      (from-each P base seqs all.1)
]

-- what was known is known once every seq below a base is
pub below-more : (base : ℕ) (known : List ℕ) (seq : ℕ) → is_known known seq ≡ true → is_known (with_below known base) seq ≡ true
below-more base known seq h = below-known base known seq ∙ or_right (nat_lt seq base) (is_known known seq) h

-- a seq that is among those below an end is below it
pub known-end : (end : ℕ) (seqs : List ℕ) (seq : ℕ) → AreBelow end seqs → is_known seqs seq ≡ true → seq < end
known-end end [] seq below h = absurd (false≢true h)
known-end end (key ∷ seqs) seq below h = elim (or_cases (key == seq) (is_known seqs seq) h) [
  | inl here ↦ subst (λ (n : ℕ). n < end) (eqb-true key seq here) below.0
  | inr later ↦ known-end end seqs seq below.1 later
]
