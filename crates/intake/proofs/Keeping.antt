-- Frames that are kept: one more of them, one taken back, and those below a seq forgotten.
use Rattle.std.proofs.Common.{◌≡◌, ℕ, ◌<◌, ◌≤◌, Bool, true, false, cond, ◌==◌, List, [], ◌∷◌, length, Option, Some, None}
use Rattle.std.proofs.Common.{refl, sym, ap, subst, ◌∙◌, inl, inr, arith}
use Rattle.std.specs.Prelude.{nat_le, ◌↔◌, IsSome, IfSome}
use Rattle.std.specs.List.{AllByRecursion, All, filter}
use Rattle.std.specs.Ordering.{nat_cmp, match_ordering, is_gt}
use Rattle.std.specs.declared.cmp.Ordering.{Ordering}
use Rattle.std.specs.declared.cmp.Ordering.TheVariants.{Less, Equal, Greater}
use Rattle.std.specs.Map.{keys_of, remove_entry}
use Rattle.std.specs.BTreeMap.{insert_entry, is_at}
use Rattle.std.specs.BTreeSet.{insert_key}
use Rattle.std.proofs.lemmas.Bool.{lt-leb, le-leb, ltb-true, eq-eqb, or_cases, or_left, or_right, false≢true}
use Rattle.std.proofs.lemmas.Bool.{cond-true, cond-false}
use Rattle.std.proofs.lemmas.Bool.Decides.{nat_tests}
use Rattle.std.proofs.lemmas.List.Elements.{recursion_from_All}
use Rattle.std.proofs.lemmas.Map.Keys.{le_from_not_gt}
use Rattle.update_log.specs.declared.frame.Frame.{Frame}
use Rattle.intake.specs.Known.{is_known, with_seq, with_below}
use Rattle.intake.proofs.Holding.{below-more}
use Rattle.intake.specs.Inner.Collecting.{AreKnown, begins_below, NoneBelow}

-- ---- one more, and one taken back

pub same-key : (seq key : ℕ) → nat_cmp seq key ≡ Equal → seq ≡ key
same-key seq key h = grind (arith, nat_tests)

pub is_at-same : (seq : ℕ) → is_at (nat_cmp seq) seq ≡ true
is_at-same seq = grind (arith, nat_tests)

is_at-above : (seq key : ℕ) → nat_cmp seq key ≡ Greater → is_at (nat_cmp seq) key ≡ false
is_at-above seq key h = grind (arith, nat_tests)

-- a frame that was put where none of its seq was is taken back
put-back : (known : List ℕ) (kept : List (ℕ × Frame)) (seq : ℕ) (frame : Frame) → is_known known seq ≡ false → AreKnown known kept
    → remove_entry (is_at (nat_cmp seq)) (insert_entry nat_cmp kept seq frame) ≡ kept
put-back known [] seq frame unknown are =
    cond-true (is_at (nat_cmp seq) seq) [] ((seq, frame) ∷ []) (is_at-same seq)
put-back known (entry ∷ kept) seq frame unknown are =
    by (put-back known kept seq frame unknown are.1) (nat_cmp seq entry.0) refl
  where
    by : remove_entry (is_at (nat_cmp seq)) (insert_entry nat_cmp kept seq frame) ≡ kept → (o : Ordering) → nat_cmp seq entry.0 ≡ o
        → remove_entry (is_at (nat_cmp seq))
        (match_ordering o ((seq, frame) ∷ entry ∷ kept) ((entry.0, frame) ∷ kept) (entry ∷ insert_entry nat_cmp kept seq frame))
        ≡ entry ∷ kept
    by rest Less is =
        cond-true (is_at (nat_cmp seq) seq) (entry ∷ kept)
        ((seq, frame) ∷ remove_entry (is_at (nat_cmp seq)) (entry ∷ kept)) (is_at-same seq)
    by rest Equal is = absurd (false≢true (sym unknown ∙ ap (is_known known) (same-key seq entry.0 is) ∙ are.0))
    by rest Greater is =
        cond-false (is_at (nat_cmp seq) entry.0) (insert_entry nat_cmp kept seq frame)
        (entry ∷ remove_entry (is_at (nat_cmp seq)) (insert_entry nat_cmp kept seq frame)) (is_at-above seq entry.0 is)
        ∙ ap (λ entries. entry ∷ entries) rest

-- the same of what a map was made, and made again
pub taken-back : (known : List ℕ) (kept put left : List (ℕ × Frame)) (seq : ℕ) (frame : Frame) → is_known known seq ≡ false
    → AreKnown known kept → put ≡ insert_entry nat_cmp kept seq frame → left ≡ remove_entry (is_at (nat_cmp seq)) put → left ≡ kept
taken-back known kept put left seq frame unknown are put_is left_is =
    left_is ∙ ap (remove_entry (is_at (nat_cmp seq))) put_is ∙ put-back known kept seq frame unknown are

-- ---- what is kept is known

-- a seq that is known stays known
pub known-with : (known : List ℕ) (seq other : ℕ) → is_known known other ≡ true → is_known (with_seq known seq) other ≡ true
known-with [] seq other h = absurd (false≢true h)
known-with (key ∷ known) seq other h = by (known-with known seq other) (nat_cmp seq key)
  where
    by : (is_known known other ≡ true → is_known (insert_key nat_cmp known seq) other ≡ true) → (o : Ordering)
        → is_known (match_ordering o (seq ∷ key ∷ known) (key ∷ known) (key ∷ insert_key nat_cmp known seq)) other ≡ true
    by rest Less = or_right (seq == other) (is_known (key ∷ known) other) h
    by rest Equal = h
    by rest Greater = elim (or_cases (key == other) (is_known known other) h) [
      | inl here ↦ or_left (key == other) (is_known (insert_key nat_cmp known seq) other) here
      | inr later ↦ or_right (key == other) (is_known (insert_key nat_cmp known seq) other) (rest later)
    ]

-- and the new one is known
known-new : (known : List ℕ) (seq : ℕ) → is_known (with_seq known seq) seq ≡ true
known-new [] seq = or_left (seq == seq) false (eq-eqb seq seq refl)
known-new (key ∷ known) seq = by (known-new known seq) (nat_cmp seq key) refl
  where
    by : is_known (insert_key nat_cmp known seq) seq ≡ true → (o : Ordering) → nat_cmp seq key ≡ o
        → is_known (match_ordering o (seq ∷ key ∷ known) (key ∷ known) (key ∷ insert_key nat_cmp known seq)) seq ≡ true
    by rest Less is = or_left (seq == seq) (is_known (key ∷ known) seq) (eq-eqb seq seq refl)
    by rest Equal is = or_left (key == seq) (is_known known seq) (eq-eqb key seq (sym (same-key seq key is)))
    by rest Greater is = or_right (key == seq) (is_known (insert_key nat_cmp known seq) seq) rest

pub are_known-with : (known : List ℕ) (kept : List (ℕ × Frame)) (seq : ℕ) → AreKnown known kept → AreKnown (with_seq known seq) kept
are_known-with known [] seq are = tt
are_known-with known (entry ∷ kept) seq are = (known-with known seq entry.0 are.0, are_known-with known kept seq are.1)

are_known-insert : (known : List ℕ) (kept : List (ℕ × Frame)) (seq : ℕ) (frame : Frame) → is_known known seq ≡ true → AreKnown known kept
    → AreKnown known (insert_entry nat_cmp kept seq frame)
are_known-insert known [] seq frame h are = (h, tt)
are_known-insert known (entry ∷ kept) seq frame h are = by (are_known-insert known kept seq frame h are.1) (nat_cmp seq entry.0)
  where
    by : AreKnown known (insert_entry nat_cmp kept seq frame) → (o : Ordering) → AreKnown known
        (match_ordering o ((seq, frame) ∷ entry ∷ kept) ((entry.0, frame) ∷ kept) (entry ∷ insert_entry nat_cmp kept seq frame))
    by rest Less = (h, are)
    by rest Equal = are
    by rest Greater = (are.0, rest)

-- with one more frame
pub are_known-more : (known : List ℕ) (kept : List (ℕ × Frame)) (seq : ℕ) (frame : Frame) → AreKnown known kept
    → AreKnown (with_seq known seq) (insert_entry nat_cmp kept seq frame)
are_known-more known kept seq frame are =
    are_known-insert (with_seq known seq) kept seq frame (known-new known seq) (are_known-with known kept seq are)

-- where every seq below a base is known too
pub are_known-below : (base : ℕ) (known : List ℕ) (kept : List (ℕ × Frame)) → AreKnown known kept → AreKnown (with_below known base) kept
are_known-below base known [] are = tt
are_known-below base known (entry ∷ kept) are = (below-more base known entry.0 are.0, are_known-below base known kept are.1)

-- ---- those below a seq are forgotten

abbrev pub from_on : ℕ → List (ℕ × Frame) → List (ℕ × Frame)
from_on count kept = filter (λ entry. nat_le count entry.0) kept

-- where none is below it, all stay
pub from_on-all : (count : ℕ) (kept : List (ℕ × Frame)) → NoneBelow count kept → from_on count kept ≡ kept
from_on-all count [] none = refl
from_on-all count (entry ∷ kept) none =
    cond-true (nat_le count entry.0) (entry ∷ from_on count kept) (from_on count kept) (le-leb count entry.0 none.0)
    ∙ ap (λ entries. entry ∷ entries) (from_on-all count kept none.1)

-- and one that is below it is not among them
pub from_on-below : (count : ℕ) (kept : List (ℕ × Frame)) (entry : ℕ × Frame) → entry.0 < count
    → from_on count (entry ∷ kept) ≡ from_on count kept
from_on-below count kept entry below =
    cond-false (nat_le count entry.0) (entry ∷ from_on count kept) (from_on count kept) (lt-leb count entry.0 below)

-- what is taken out of frames that begin below a seq is below it
pub below-popped : (kept rest : List (ℕ × Frame)) (count : ℕ) (popped : Option (ℕ × Frame)) → begins_below kept count ≡ true
    → (IsSome popped ↔ (0 < length kept)) → IfSome popped (λ entry. kept ≡ entry ∷ rest)
    → (entry : ℕ × Frame) × (kept ≡ entry ∷ rest) × (entry.0 < count)
below-popped [] rest count popped begins some is = absurd (false≢true begins)
below-popped (first ∷ kept) rest count None begins some is = absurd (false≢true (some.1 (omega arith)))
below-popped (first ∷ kept) rest count (Some entry) begins some is =
    (let same : first ≡ entry = cc in (entry, is, subst (λ (e : ℕ × Frame). e.0 < count) same (ltb-true first.0 count begins)))

-- where the first is not below a seq, none is
pub none_below-first : (count : ℕ) (kept : List (ℕ × Frame)) (first : ℕ) → count ≤ first
    → All (λ key. is_gt (nat_cmp first key) ≡ false) (keys_of kept) → NoneBelow count kept
none_below-first count kept first past least =
    later kept (recursion_from_All (λ key. is_gt (nat_cmp first key) ≡ false) (keys_of kept) least)
  where
    later : (kept : List (ℕ × Frame)) → AllByRecursion (λ key. is_gt (nat_cmp first key) ≡ false) (keys_of kept) → NoneBelow count kept
    later [] h = tt
    later (entry ∷ kept) h = (let up = le_from_not_gt first entry.0 h.0 in omega (arith, up, past), later kept h.1)

-- and so it is where a frame is taken out
pub are_known-without : (known : List ℕ) (test : ℕ → Bool) (kept : List (ℕ × Frame)) → AreKnown known kept
    → AreKnown known (remove_entry test kept)
are_known-without known test [] are = tt
are_known-without known test (entry ∷ kept) are = by (are_known-without known test kept are.1) (test entry.0)
  where
    by : AreKnown known (remove_entry test kept) → (here : Bool) → AreKnown known (cond here kept (entry ∷ remove_entry test kept))
    by rest true = are.1
    by rest false = (are.0, rest)
