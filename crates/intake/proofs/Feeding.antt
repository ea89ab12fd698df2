-- Arrivals that are of the streams of a list of commits stay so.
use Rattle.std.proofs.Common.{◌≡◌, ℕ, zero, suc, ◌+◌, ◌-◌, ◌<◌, ◌≤◌, Bool, true, false, cond, ◌==◌, List, [], ◌∷◌, ◌++◌, length}
use Rattle.std.proofs.Common.{take, drop, set, get_or, Option, Some, None, refl, sym, ap, subst, ◌∙◌, inl, inr, arith}
use Rattle.std.proofs.Common.{append_assoc}
use Rattle.std.specs.Prelude.{nat_le, nat_lt, ◌⊎◌, IsSome, slice_get, slice_index}
use Rattle.std.specs.Option.{option_to_list}
use Rattle.std.specs.Ordering.{nat_cmp, match_ordering}
use Rattle.std.specs.declared.cmp.Ordering.{Ordering}
use Rattle.std.specs.declared.cmp.Ordering.TheVariants.{Less, Equal, Greater}
use Rattle.std.specs.BTreeMap.{insert_entry, is_at}
use Rattle.std.specs.BTreeSet.{insert_key}
use Rattle.std.proofs.lemmas.Bool.{cases_eq, cases_lt, cases_Bool, eqb-true, or_cases, or_left, or_right, false≢true, cond-true, cond-false}
use Rattle.std.proofs.lemmas.Bool.{leb-true, leb-false, ltb-true}
use Rattle.std.proofs.lemmas.Bool.Decides.{nat_tests}
use Rattle.std.proofs.lemmas.List.{get_or-set_same, get_or-set_other, set_past, drop_more}
use Rattle.std.proofs.lemmas.Option.{same_Some, none-some, slice_get_within, get_or_from_slice_get}
use Rattle.rows.specs.declared.commit.Commit.{Commit}
use Rattle.update_log.specs.declared.frame.Frame.{Frame}
use Rattle.update_log.specs.Frames.{frames_of}
use Rattle.update_log.specs.Streams.{stream_from, stream_of}
use Rattle.intake.specs.declared.taken.Taken.{Taken}
use Rattle.intake.specs.declared.taken.Taken.TheVariants.{Repeat, Ahead, Stored}
use Rattle.intake.specs.Known.{is_known, with_seq, is_ahead}
use Rattle.intake.specs.State.{Arrivals, nothing, arrivals_of, frame_in}
use Rattle.intake.specs.Steps.{no_arrivals, with_frame, taken, without_below, dropped, gained, known_below}
use Rattle.intake.specs.Kept.{frames_at, frames_between, AreKept}
use Rattle.intake.specs.Streams.{IsFrom, AreFrom}
use Rattle.intake.proofs.Holding.{below-known}
use Rattle.intake.proofs.Keeping.{from_on, same-key}

-- ---- what one more frame makes known, and what is found then

-- a seq that is known then is that one, or was known
pub known-cases : (known : List ℕ) (seq other : ℕ) → is_known (with_seq known seq) other ≡ true
    → (other ≡ seq) ⊎ (is_known known other ≡ true)
known-cases [] seq other h = elim (or_cases (seq == other) false h) [
  | inl here ↦ inl (sym (eqb-true seq other here))
  | inr none ↦ absurd (false≢true none)
]
known-cases (key ∷ known) seq other h = by (known-cases known seq other) (nat_cmp seq key) h
  where
    by : (is_known (insert_key nat_cmp known seq) other ≡ true → (other ≡ seq) ⊎ (is_known known other ≡ true)) → (o : Ordering)
        → is_known (match_ordering o (seq ∷ key ∷ known) (key ∷ known) (key ∷ insert_key nat_cmp known seq)) other ≡ true
        → (other ≡ seq) ⊎ (is_known (key ∷ known) other ≡ true)
    by rest Less h = elim (or_cases (seq == other) (is_known (key ∷ known) other) h) [
      | inl here ↦ inl (sym (eqb-true seq other here))
      | inr later ↦ inr later
    ]
    by rest Equal h = inr h
    by rest Greater h = elim (or_cases (key == other) (is_known (insert_key nat_cmp known seq) other) h) [
      | inl here ↦ inr (or_left (key == other) (is_known known other) here)
      | inr later ↦ elim (rest later) [
        | inl same ↦ inl same
        | inr was ↦ inr (or_right (key == other) (is_known known other) was)
      ]
    ]

pub is_at-is : (seq key : ℕ) → is_at (nat_cmp seq) key ≡ true → seq ≡ key
is_at-is seq key h = grind (arith, nat_tests)

is_at-below : (seq key : ℕ) → seq < key → is_at (nat_cmp seq) key ≡ false
is_at-below seq key h = grind (arith, nat_tests)

-- what a look-up found stood first, or behind
found-cases : (here : Bool) (frame found : Frame) (rest : Option Frame) → cond here (Some frame) rest ≡ Some found
    → ((here ≡ true) × (found ≡ frame)) ⊎ ((here ≡ false) × (rest ≡ Some found))
found-cases true frame found rest h = inl (refl, sym (same_Some frame found h))
found-cases false frame found rest h = inr (refl, h)

-- a frame that is found then is that one, or was found
frame-cases : (kept : List (ℕ × Frame)) (seq : ℕ) (frame : Frame) (other : ℕ) (found : Frame)
    → frame_in (insert_entry nat_cmp kept seq frame) other ≡ Some found
    → ((other ≡ seq) × (found ≡ frame)) ⊎ (frame_in kept other ≡ Some found)
frame-cases [] seq frame other found h = elim (found-cases (is_at (nat_cmp other) seq) frame found None h) [
  | inl here ↦ inl (is_at-is other seq here.0, here.1)
  | inr none ↦ absurd (none-some found none.1)
]
frame-cases (entry ∷ kept) seq frame other found h = by (frame-cases kept seq frame other found) (nat_cmp seq entry.0) refl h
  where
    by : (frame_in (insert_entry nat_cmp kept seq frame) other ≡ Some found
        → ((other ≡ seq) × (found ≡ frame)) ⊎ (frame_in kept other ≡ Some found))
        → (o : Ordering) → nat_cmp seq entry.0 ≡ o
        → frame_in (match_ordering o ((seq, frame) ∷ entry ∷ kept) ((entry.0, frame) ∷ kept)
        (entry ∷ insert_entry nat_cmp kept seq frame)) other ≡ Some found
        → ((other ≡ seq) × (found ≡ frame)) ⊎ (frame_in (entry ∷ kept) other ≡ Some found)
    by rest Less is h = elim (found-cases (is_at (nat_cmp other) seq) frame found (frame_in (entry ∷ kept) other) h) [
      | inl here ↦ inl (is_at-is other seq here.0, here.1)
      | inr later ↦ inr later.1
    ]
    by rest Equal is h = elim (found-cases (is_at (nat_cmp other) entry.0) frame found (frame_in kept other) h) [
      | inl here ↦ inl (is_at-is other entry.0 here.0 ∙ sym (same-key seq entry.0 is), here.1)
      | inr later ↦ inr (cond-false (is_at (nat_cmp other) entry.0) (Some entry.1) (frame_in kept other) later.0 ∙ later.1)
    ]
    by rest Greater is h =
        elim (found-cases (is_at (nat_cmp other) entry.0) entry.1 found (frame_in (insert_entry nat_cmp kept seq frame) other) h) [
          | inl here ↦ inr (cond-true (is_at (nat_cmp other) entry.0) (Some entry.1) (frame_in kept other) here.0
              ∙ ap (λ (f : Frame). Some f) (sym here.1))
          | inr later ↦ elim (rest later.1) [
            | inl this ↦ inl this
            | inr was ↦ inr (cond-false (is_at (nat_cmp other) entry.0) (Some entry.1) (frame_in kept other) later.0 ∙ was)
          ]
        ]

-- ---- what is found where frames were dropped

pub from_on-first : (count : ℕ) (entry : ℕ × Frame) (kept : List (ℕ × Frame)) → nat_le count entry.0 ≡ true
    → from_on count (entry ∷ kept) ≡ entry ∷ from_on count kept
from_on-first count entry kept h = cond-true (nat_le count entry.0) (entry ∷ from_on count kept) (from_on count kept) h

pub from_on-not : (count : ℕ) (entry : ℕ × Frame) (kept : List (ℕ × Frame)) → nat_le count entry.0 ≡ false
    → from_on count (entry ∷ kept) ≡ from_on count kept
from_on-not count entry kept h = cond-false (nat_le count entry.0) (entry ∷ from_on count kept) (from_on count kept) h

-- nothing below the count
below-none : (kept : List (ℕ × Frame)) (count other : ℕ) → other < count → frame_in (from_on count kept) other ≡ None
below-none [] count other below = refl
below-none (entry ∷ kept) count other below = elim (cases_Bool (nat_le count entry.0)) [
  | inl stays ↦
      ap (λ (entries : List (ℕ × Frame)). frame_in entries other) (from_on-first count entry kept stays)
      ∙ cond-false (is_at (nat_cmp other) entry.0) (Some entry.1) (frame_in (from_on count kept) other)
      (is_at-below other entry.0 (omega (arith, below, leb-true count entry.0 stays)))
      ∙ below-none kept count other below
  | inr goes ↦
      ap (λ (entries : List (ℕ × Frame)). frame_in entries other) (from_on-not count entry kept goes) ∙ below-none kept count other below
]

-- and what is found was found before
frame-left : (kept : List (ℕ × Frame)) (count other : ℕ) (found : Frame) → frame_in (from_on count kept) other ≡ Some found
    → frame_in kept other ≡ Some found
frame-left [] count other found h = absurd (none-some found h)
frame-left (entry ∷ kept) count other found h = elim (cases_Bool (nat_le count entry.0)) [
  | inl stays ↦
      (let first = sym (ap (λ (entries : List (ℕ × Frame)). frame_in entries other) (from_on-first count entry kept stays)) ∙ h in
      elim (found-cases (is_at (nat_cmp other) entry.0) entry.1 found (frame_in (from_on count kept) other) first) [
        | inl here ↦ cond-true (is_at (nat_cmp other) entry.0) (Some entry.1) (frame_in kept other) here.0
            ∙ ap (λ (f : Frame). Some f) (sym here.1)
        | inr later ↦ cond-false (is_at (nat_cmp other) entry.0) (Some entry.1) (frame_in kept other) later.0
            ∙ frame-left kept count other found later.1
      ])
  | inr goes ↦
      (let left = sym (ap (λ (entries : List (ℕ × Frame)). frame_in entries other) (from_on-not count entry kept goes)) ∙ h in
      elim (cases_Bool (is_at (nat_cmp other) entry.0)) [
        | inl here ↦
            (let below : other < count = omega (arith, is_at-is other entry.0 here, leb-false count entry.0 goes) in
            absurd (none-some found (sym (below-none kept count other below) ∙ left)))
        | inr apart ↦ cond-false (is_at (nat_cmp other) entry.0) (Some entry.1) (frame_in kept other) apart
            ∙ frame-left kept count other found left
      ])
]

-- ---- of one worker

with_frame-from : (stream : List Frame) (arrivals : Arrivals) (frame : Frame) → slice_get stream frame.seq ≡ Some frame
    → IsFrom stream arrivals → IsFrom stream (with_frame arrivals frame)
with_frame-from stream arrivals frame is from = record {
  known_are = λ seq h. elim (known-cases arrivals.known frame.seq seq h) [
    | inl same ↦ subst (λ (n : ℕ). n < length stream) (sym same) (slice_get_within stream frame.seq frame is)
    | inr was ↦ from.known_are seq was
  ];
  kept_are = λ seq found h. elim (frame-cases arrivals.kept frame.seq frame seq found h) [
    | inl this ↦ ap (slice_get stream) this.0 ∙ is ∙ ap (λ (f : Frame). Some f) (sym this.1)
    | inr was ↦ from.kept_are seq found was
  ];
}

without-from : (stream : List Frame) (arrivals : Arrivals) (count : ℕ) → IsFrom stream arrivals
    → IsFrom stream (without_below arrivals count)
without-from stream arrivals count from = record {
  known_are = from.known_are;
  kept_are = λ seq found h. from.kept_are seq found (frame-left arrivals.kept count seq found h);
}

-- ---- of all workers

pub nothing-of : (frames : List Frame) (workers worker : ℕ) → IsFrom frames (arrivals_of (no_arrivals workers) worker)
nothing-of frames workers worker = subst (IsFrom frames) (sym (none workers worker)) (record {
  known_are = λ seq h. absurd (false≢true h);
  kept_are = λ seq frame h. absurd (none-some frame h);
})
  where
    none : (workers worker : ℕ) → arrivals_of (no_arrivals workers) worker ≡ nothing
    none zero worker = refl
    none (suc workers) zero = refl
    none (suc workers) (suc worker) = none workers worker

pub nothing-from : (commits : List Commit) (workers : ℕ) → AreFrom commits (no_arrivals workers)
nothing-from commits workers worker = nothing-of (stream_of commits worker) workers worker

-- a stream goes on as its list does
stream-more : (worker before first : ℕ) (commits more : List Commit)
    → (rest : List Frame) × (stream_from worker before first (commits ++ more) ≡ stream_from worker before first commits ++ rest)
stream-more worker before first [] more = (stream_from worker before first more, refl)
stream-more worker before first (commit ∷ commits) more =
    let front : List Frame = cond (commit.worker == worker) (frames_of commit (before + 1) first) [] in
    let behind = stream-more worker (before + 1) (first + length front) commits more in (
      behind.0,
      ap (λ (frames : List Frame). front ++ frames) behind.1
          ∙ sym (append_assoc front (stream_from worker (before + 1) (first + length front) commits) behind.0),
    )

found-more : (stream rest : List Frame) (seq : ℕ) (frame : Frame) → slice_get stream seq ≡ Some frame
    → slice_get (stream ++ rest) seq ≡ Some frame
found-more [] rest seq frame h = absurd (none-some frame h)
found-more (first ∷ stream) rest zero frame h = h
found-more (first ∷ stream) rest (suc seq) frame h = found-more stream rest seq frame h

length-more : (stream rest : List Frame) → length stream ≤ length (stream ++ rest)
length-more [] rest = omega arith
length-more (first ∷ stream) rest = (let more = length-more stream rest in omega arith)

pub commits-from : (commits more : List Commit) (all : List Arrivals) → AreFrom commits all → AreFrom (commits ++ more) all
commits-from commits more all from worker =
    let stream = stream_of commits worker in
    let behind = stream-more worker 0 0 commits more in
    subst (λ (frames : List Frame). IsFrom frames (arrivals_of all worker)) (sym behind.1) (record {
      known_are = λ seq h. omega (arith, (from worker).known_are seq h, length-more stream behind.0);
      kept_are = λ seq frame h. found-more stream behind.0 seq frame ((from worker).kept_are seq frame h);
    })

-- one worker's arrivals in their place
placed-from : (commits : List Commit) (all : List Arrivals) (worker : ℕ) (new : Arrivals) → AreFrom commits all
    → IsFrom (stream_of commits worker) new → AreFrom commits (set all worker new)
placed-from commits all worker new from is other = elim (cases_eq other worker) [
  | inl same ↦ elim (cases_lt worker (length all)) [
    | inl within ↦
        subst (λ (n : ℕ). IsFrom (stream_of commits n) (get_or (set all worker new) n nothing)) (sym same)
        (subst (IsFrom (stream_of commits worker)) (sym (get_or-set_same all worker new nothing within)) is)
    | inr past ↦
        subst (λ (l : List Arrivals). IsFrom (stream_of commits other) (get_or l other nothing)) (sym (set_past all worker new past))
        (from other)
  ]
  | inr apart ↦ subst (IsFrom (stream_of commits other)) (sym (get_or-set_other all worker other new nothing apart)) (from other)
]

pub frames-from : (commits : List Commit) (all : List Arrivals) (bases : List ℕ) (frame : Frame)
    → slice_get (stream_of commits frame.worker) frame.seq ≡ Some frame → AreFrom commits all → AreFrom commits (taken all bases frame).1
frames-from commits all bases frame is from =
    by (is_known one.known frame.seq) (is_ahead one.known (slice_index bases frame.worker) frame.seq)
  where
    one : Arrivals
    one = arrivals_of all frame.worker

    by : (repeat ahead : Bool) → AreFrom commits
        (cond {A = Taken × List Arrivals} repeat (Repeat, all)
        (cond ahead (Ahead, all) (Stored, set all frame.worker (with_frame (arrivals_of all frame.worker) frame)))).1
    by true ahead = from
    by false true = from
    by false false =
        placed-from commits all frame.worker (with_frame (arrivals_of all frame.worker) frame) from
        (with_frame-from (stream_of commits frame.worker) (arrivals_of all frame.worker) frame is (from frame.worker))

-- the same of one worker, whose frames are any list
pub frames-of : (frames : List Frame) (all : List Arrivals) (bases : List ℕ) (frame : Frame) → slice_get frames frame.seq ≡ Some frame
    → IsFrom frames (arrivals_of all frame.worker) → IsFrom frames (arrivals_of (taken all bases frame).1 frame.worker)
frames-of frames all bases frame is from =
    by (is_known one.known frame.seq) (is_ahead one.known (slice_index bases frame.worker) frame.seq)
  where
    one : Arrivals
    one = arrivals_of all frame.worker

    stored : IsFrom frames (arrivals_of (set all frame.worker (with_frame one frame)) frame.worker)
    stored = elim (cases_lt frame.worker (length all)) [
      | inl within ↦ subst (IsFrom frames) (sym (get_or-set_same all frame.worker (with_frame one frame) nothing within))
          (with_frame-from frames one frame is from)
      | inr past ↦ subst (λ (l : List Arrivals). IsFrom frames (get_or l frame.worker nothing))
          (sym (set_past all frame.worker (with_frame one frame) past)) from
    ]

    by : (repeat ahead : Bool) → IsFrom frames (arrivals_of
        (cond {A = Taken × List Arrivals} repeat (Repeat, all)
        (cond ahead (Ahead, all) (Stored, set all frame.worker (with_frame one frame)))).1 frame.worker)
    by true ahead = from
    by false true = from
    by false false = stored

-- a worker's arrivals are as they were, or without those below a count
dropped-at : (all : List Arrivals) (counts : List ℕ) (worker : ℕ)
    → (arrivals_of (dropped all counts) worker ≡ arrivals_of all worker)
    ⊎ ((count : ℕ) × (arrivals_of (dropped all counts) worker ≡ without_below (arrivals_of all worker) count))
dropped-at [] counts worker = inl refl
dropped-at (one ∷ all) [] worker = inl refl
dropped-at (one ∷ all) (count ∷ counts) zero = inr (count, refl)
dropped-at (one ∷ all) (count ∷ counts) (suc worker) = dropped-at all counts worker

pub drops-from : (commits : List Commit) (all : List Arrivals) (counts : List ℕ) → AreFrom commits all
    → AreFrom commits (dropped all counts)
drops-from commits all counts from worker = elim (dropped-at all counts worker) [
  | inl same ↦ subst (IsFrom (stream_of commits worker)) (sym same) (from worker)
  | inr fewer ↦
      subst (IsFrom (stream_of commits worker)) (sym fewer.1)
      (without-from (stream_of commits worker) (arrivals_of all worker) fewer.0 (from worker))
]

-- a worker's arrivals where every frame below a base is gained
below-from : (stream : List Frame) (arrivals : Arrivals) (base : ℕ) → base ≤ length stream → IsFrom stream arrivals
    → IsFrom stream (known_below arrivals base)
below-from stream arrivals base within from = record {
  known_are = λ seq h. elim (or_cases (nat_lt seq base) (is_known arrivals.known seq) (sym (below-known base arrivals.known seq) ∙ h)) [
    | inl below ↦ omega (arith, within, ltb-true seq base below)
    | inr was ↦ from.known_are seq was
  ];
  kept_are = from.kept_are;
}

pub gains-from : (commits : List Commit) (all : List Arrivals) (bases : List ℕ)
    → ((worker : ℕ) → slice_index bases worker ≤ length (stream_of commits worker)) → AreFrom commits all
    → AreFrom commits (gained all bases)
gains-from commits all bases within from worker = at (stream_of commits worker) all bases worker (within worker) (from worker)
  where
    at : (stream : List Frame) (all : List Arrivals) (bases : List ℕ) (worker : ℕ) → slice_index bases worker ≤ length stream
        → IsFrom stream (arrivals_of all worker) → IsFrom stream (arrivals_of (gained all bases) worker)
    at stream all [] worker within is = is
    at stream [] (base ∷ bases) worker within is = is
    at stream (one ∷ all) (base ∷ bases) zero within is = below-from stream one base within is
    at stream (one ∷ all) (base ∷ bases) (suc worker) within is = at stream all bases worker within is

-- ---- frames that are kept one behind the other

found-some : (found : Option Frame) → IsSome found → (frame : Frame) × (found ≡ Some frame)
found-some None h = absurd (false≢true h)
found-some (Some frame) h = (frame, refl)

kept-from : (stream : List Frame) (kept : List (ℕ × Frame)) (low count : ℕ)
    → ((seq : ℕ) (frame : Frame) → frame_in kept seq ≡ Some frame → slice_get stream seq ≡ Some frame)
    → ((seq : ℕ) → low ≤ seq → seq < low + count → IsSome (frame_in kept seq))
    → frames_at kept low count ≡ take count (drop low stream)
kept-from stream kept low zero are there = refl
kept-from stream kept low (suc count) are there =
    let first = found-some (frame_in kept low) (there low (omega arith) (omega arith)) in
    let frame = first.0 in
    let is = are low frame first.1 in
    let here : drop low stream ≡ frame ∷ drop (low + 1) stream =
    drop_more stream low frame (slice_get_within stream low frame is)
    ∙ ap (λ (f : Frame). f ∷ drop (low + 1) stream) (get_or_from_slice_get stream low frame frame is) in
    let rest = kept-from stream kept (low + 1) count are (λ seq after below. there seq (omega arith) (omega arith)) in
    ap (λ (found : Option Frame). option_to_list found ++ frames_at kept (low + 1) count) first.1
    ∙ ap (λ (frames : List Frame). frame ∷ frames) rest ∙ sym (ap (take (suc count)) here)

pub kept-of : (frames : List Frame) (all : List Arrivals) (worker low high : ℕ) → IsFrom frames (arrivals_of all worker)
    → AreKept all worker low high → frames_between all worker low high ≡ take (high - low) (drop low frames)
kept-of frames all worker low high from there =
    kept-from frames (arrivals_of all worker).kept low (high - low) from.kept_are (λ seq after below. there seq after (omega arith))

pub kept-of_stream : (commits : List Commit) (all : List Arrivals) (worker low high : ℕ) → AreFrom commits all → AreKept all worker low high
    → frames_between all worker low high ≡ take (high - low) (drop low (stream_of commits worker))
kept-of_stream commits all worker low high from there = kept-of (stream_of commits worker) all worker low high (from worker) there
