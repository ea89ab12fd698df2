-- What stays known and kept as frames come and are dropped, and what is known where none is lacking.
use Rattle.std.proofs.Common.{◌≡◌, ℕ, zero, suc, ◌+◌, ◌<◌, ◌≤◌, Bool, true, false, cond, List, [], ◌∷◌, length, set, get_or}
use Rattle.std.proofs.Common.{Option, Some, None, refl, sym, ap, subst, ◌∙◌, inl, inr, arith}
use Rattle.std.specs.Prelude.{nat_le, nat_lt, ◌||◌, IsSome, slice_index}
use Rattle.std.specs.Ordering.{nat_cmp, match_ordering}
use Rattle.std.specs.declared.cmp.Ordering.{Ordering}
use Rattle.std.specs.declared.cmp.Ordering.TheVariants.{Less, Equal, Greater}
use Rattle.std.specs.BTreeMap.{insert_entry, is_at}
use Rattle.std.specs.Map.{remove_entry}
use Rattle.std.proofs.lemmas.Bool.{cases_eq, cases_lt, cases_Bool, false≢true, cond-false, leb-false, ltb-false, le-ltb}
use Rattle.std.proofs.lemmas.Bool.Decides.{nat_tests}
use Rattle.std.proofs.lemmas.List.{get_or-set_same, get_or-set_other, set_past, length-set}
use Rattle.std.proofs.lemmas.Option.{none-some}
use Rattle.update_log.specs.declared.frame.Frame.{Frame}
use Rattle.intake.specs.declared.taken.Taken.{Taken}
use Rattle.intake.specs.declared.taken.Taken.TheVariants.{Repeat, Ahead, Stored}
use Rattle.intake.specs.Known.{is_known, is_ahead}
use Rattle.intake.specs.State.{Arrivals, nothing, arrivals_of, known_of, frame_in, frame_of}
use Rattle.intake.specs.Steps.{with_frame, taken, missing_at, lacking_from, dropped, without_frame}
use Rattle.intake.specs.Laws.{FramesLeaveWorkers, DropsLeaveWorkers, FramesStayKnown, DropsLeaveKnown}
use Rattle.intake.specs.Laws.{FramesStayKept, DropsStayKept, GainsLeaveWorkers, GainsAreKnown, GainsLeaveKept}
use Rattle.intake.specs.Laws.{ReleasesLeaveOthers, ReleasesLeaveWorkers}
use Rattle.intake.proofs.Feeding.{known-cases, is_at-is, from_on-first, from_on-not}
use Rattle.intake.proofs.Keeping.{from_on, same-key, is_at-same, known-with}
use Rattle.intake.proofs.Holding.{below-known}
use Rattle.intake.proofs.Seqs.{is_known-below}

-- ---- a look-up among frames

found-either : (here : Bool) (frame : Frame) (rest : Option Frame) → IsSome rest → IsSome (cond here (Some frame) rest)
found-either true frame rest h = refl
found-either false frame rest h = h

found-other : (here : Bool) (frame other : Frame) (rest : Option Frame) → IsSome (cond here (Some frame) rest)
    → IsSome (cond here (Some other) rest)
found-other true frame other rest h = refl
found-other false frame other rest h = h

found-on : (here : Bool) (frame : Frame) (rest more : Option Frame) → (IsSome rest → IsSome more) → IsSome (cond here (Some frame) rest)
    → IsSome (cond here (Some frame) more)
found-on true frame rest more on h = refl
found-on false frame rest more on h = on h

-- the frame that was put is found
frame-there : (kept : List (ℕ × Frame)) (seq : ℕ) (frame : Frame) → IsSome (frame_in (insert_entry nat_cmp kept seq frame) seq)
frame-there [] seq frame =
    subst (λ (b : Bool). IsSome (cond b (Some frame) None)) (sym (is_at-same seq)) refl
frame-there (entry ∷ kept) seq frame = by (frame-there kept seq frame) (nat_cmp seq entry.0) refl
  where
    by : IsSome (frame_in (insert_entry nat_cmp kept seq frame) seq) → (o : Ordering) → nat_cmp seq entry.0 ≡ o
        → IsSome (frame_in (match_ordering o ((seq, frame) ∷ entry ∷ kept) ((entry.0, frame) ∷ kept)
        (entry ∷ insert_entry nat_cmp kept seq frame)) seq)
    by rest Less is =
        subst (λ (b : Bool). IsSome (cond b (Some frame) (frame_in (entry ∷ kept) seq))) (sym (is_at-same seq)) refl
    by rest Equal is =
        subst (λ (key : ℕ). IsSome (cond (is_at (nat_cmp seq) key) (Some frame) (frame_in kept seq))) (same-key seq entry.0 is)
        (subst (λ (b : Bool). IsSome (cond b (Some frame) (frame_in kept seq))) (sym (is_at-same seq)) refl)
    by rest Greater is = found-either (is_at (nat_cmp seq) entry.0) entry.1 (frame_in (insert_entry nat_cmp kept seq frame) seq) rest

-- and so is each that was found
frame-stays : (kept : List (ℕ × Frame)) (seq : ℕ) (frame : Frame) (other : ℕ) → IsSome (frame_in kept other)
    → IsSome (frame_in (insert_entry nat_cmp kept seq frame) other)
frame-stays [] seq frame other h = absurd (false≢true h)
frame-stays (entry ∷ kept) seq frame other h = by (frame-stays kept seq frame other) (nat_cmp seq entry.0)
  where
    by : (IsSome (frame_in kept other) → IsSome (frame_in (insert_entry nat_cmp kept seq frame) other)) → (o : Ordering)
        → IsSome (frame_in (match_ordering o ((seq, frame) ∷ entry ∷ kept) ((entry.0, frame) ∷ kept)
        (entry ∷ insert_entry nat_cmp kept seq frame)) other)
    by rest Less = found-either (is_at (nat_cmp other) seq) frame (frame_in (entry ∷ kept) other) h
    by rest Equal = found-other (is_at (nat_cmp other) entry.0) entry.1 frame (frame_in kept other) h
    by rest Greater =
        found-on (is_at (nat_cmp other) entry.0) entry.1 (frame_in kept other) (frame_in (insert_entry nat_cmp kept seq frame) other) rest h

is_at-past : (seq key : ℕ) → key < seq → is_at (nat_cmp seq) key ≡ false
is_at-past seq key h = grind (arith, nat_tests)

-- what is not below the count is found where those below it were dropped
frame-above : (kept : List (ℕ × Frame)) (count seq : ℕ) → count ≤ seq → IsSome (frame_in kept seq)
    → IsSome (frame_in (from_on count kept) seq)
frame-above [] count seq low h = h
frame-above (entry ∷ kept) count seq low h = elim (cases_Bool (nat_le count entry.0)) [
  | inl stays ↦
      subst (λ (entries : List (ℕ × Frame)). IsSome (frame_in entries seq)) (sym (from_on-first count entry kept stays))
      (found-on (is_at (nat_cmp seq) entry.0) entry.1 (frame_in kept seq) (frame_in (from_on count kept) seq)
      (frame-above kept count seq low) h)
  | inr goes ↦
      let below : entry.0 < seq = omega (arith, low, leb-false count entry.0 goes) in
      subst (λ (entries : List (ℕ × Frame)). IsSome (frame_in entries seq)) (sym (from_on-not count entry kept goes))
      (frame-above kept count seq low
      (subst (λ (found : Option Frame). IsSome found)
      (cond-false (is_at (nat_cmp seq) entry.0) (Some entry.1) (frame_in kept seq) (is_at-past seq entry.0 below)) h))
]

-- ---- where a frame comes

-- what holds of each worker's arrivals holds of them where new ones of which it holds are placed
placed-keeps : (P : Arrivals → Type 0) (all : List Arrivals) (worker : ℕ) (new : Arrivals) (other : ℕ) → P (arrivals_of all other)
    → (P (arrivals_of all worker) → P new) → P (arrivals_of (set all worker new) other)
placed-keeps P all worker new other is on = elim (cases_eq other worker) [
  | inl same ↦ elim (cases_lt worker (length all)) [
    | inl within ↦
        subst (λ (n : ℕ). P (get_or (set all worker new) n nothing)) (sym same)
        (subst P (sym (get_or-set_same all worker new nothing within)) (on (subst (λ (n : ℕ). P (arrivals_of all n)) same is)))
    | inr past ↦ subst (λ (l : List Arrivals). P (get_or l other nothing)) (sym (set_past all worker new past)) is
  ]
  | inr apart ↦ subst P (sym (get_or-set_other all worker other new nothing apart)) is
]

taken-keeps : (P : Arrivals → Type 0) (all : List Arrivals) (bases : List ℕ) (frame : Frame) (other : ℕ) → P (arrivals_of all other)
    → (P (arrivals_of all frame.worker) → P (with_frame (arrivals_of all frame.worker) frame))
    → P (arrivals_of (taken all bases frame).1 other)
taken-keeps P all bases frame other is on =
    by (is_known (arrivals_of all frame.worker).known frame.seq)
    (is_ahead (arrivals_of all frame.worker).known (slice_index bases frame.worker) frame.seq)
  where
    by : (repeat ahead : Bool) → P (arrivals_of (cond {A = Taken × List Arrivals} repeat (Repeat, all)
        (cond ahead (Ahead, all) (Stored, set all frame.worker (with_frame (arrivals_of all frame.worker) frame)))).1 other)
    by true ahead = is
    by false true = is
    by false false = placed-keeps P all frame.worker (with_frame (arrivals_of all frame.worker) frame) other is on

pub frames-workers : FramesLeaveWorkers
frames-workers all bases frame =
    by (is_known (arrivals_of all frame.worker).known frame.seq)
    (is_ahead (arrivals_of all frame.worker).known (slice_index bases frame.worker) frame.seq)
  where
    by : (repeat ahead : Bool) → length (cond {A = Taken × List Arrivals} repeat (Repeat, all)
        (cond ahead (Ahead, all) (Stored, set all frame.worker (with_frame (arrivals_of all frame.worker) frame)))).1 ≡ length all
    by true ahead = refl
    by false true = refl
    by false false = length-set all frame.worker (with_frame (arrivals_of all frame.worker) frame)

pub frames-known : FramesStayKnown
frames-known all bases frame worker seq h =
    taken-keeps (λ (one : Arrivals). is_known one.known seq ≡ true) all bases frame worker h
    (known-with (arrivals_of all frame.worker).known frame.seq seq)

-- each known frame from a seq on is kept
abbrev IsKeptAt : ℕ → Arrivals → Type 0
IsKeptAt seq one = is_known one.known seq ≡ true → IsSome (frame_in one.kept seq)

with_frame-kept : (one : Arrivals) (frame : Frame) (seq : ℕ) → IsKeptAt seq one → IsKeptAt seq (with_frame one frame)
with_frame-kept one frame seq kept h = elim (known-cases one.known frame.seq seq h) [
  | inl same ↦
      subst (λ (n : ℕ). IsSome (frame_in (insert_entry nat_cmp one.kept frame.seq frame) n)) (sym same)
      (frame-there one.kept frame.seq frame)
  | inr was ↦ frame-stays one.kept frame.seq frame seq (kept was)
]

pub frames-kept : FramesStayKept
frames-kept all lows bases frame kept worker seq low =
    taken-keeps (IsKeptAt seq) all bases frame worker (kept worker seq low) (with_frame-kept (arrivals_of all frame.worker) frame seq)

-- ---- where frames are dropped

pub drops-workers : DropsLeaveWorkers
drops-workers [] counts = refl
drops-workers (one ∷ all) [] = refl
drops-workers (one ∷ all) (count ∷ counts) = ap suc (drops-workers all counts)

pub drops-known : DropsLeaveKnown
drops-known [] counts worker = refl
drops-known (one ∷ all) [] worker = refl
drops-known (one ∷ all) (count ∷ counts) zero = refl
drops-known (one ∷ all) (count ∷ counts) (suc worker) = drops-known all counts worker

frames-above : (all : List Arrivals) (counts : List ℕ) (worker seq : ℕ) → slice_index counts worker ≤ seq
    → IsSome (frame_of all worker seq) → IsSome (frame_of (dropped all counts) worker seq)
frames-above [] counts worker seq low h = h
frames-above (one ∷ all) [] worker seq low h = h
frames-above (one ∷ all) (count ∷ counts) zero seq low h = frame-above one.kept count seq low h
frames-above (one ∷ all) (count ∷ counts) (suc worker) seq low h = frames-above all counts worker seq low h

pub drops-kept : DropsStayKept
drops-kept all lows counts up kept worker seq low h =
    let past : slice_index lows worker ≤ seq = omega (arith, up worker, low) in
    frames-above all counts worker seq low
    (kept worker seq past (subst (λ (known : List ℕ). is_known known seq ≡ true) (drops-known all counts worker) h))

-- ---- what is lacking

-- none where the first worker lacks one
lacks-none : (lacks : Bool) (here : ℕ × ℕ) (rest : Option (ℕ × ℕ)) → cond lacks (Some here) rest ≡ None → (lacks ≡ false) × (rest ≡ None)
lacks-none true here rest h = absurd (none-some here (sym h))
lacks-none false here rest h = (refl, h)

-- each frame from the bases to before the counts is known where none is lacking
pub from-known : (from : ℕ) (all : List Arrivals) (bases counts : List ℕ) (worker seq : ℕ) → lacking_from from all bases counts ≡ None
    → worker < length all → slice_index bases (from + worker) ≤ seq → seq < slice_index counts worker
    → is_known (known_of all worker) seq ≡ true
from-known from [] bases counts worker seq none within low below = absurd (omega (arith, within))
from-known from (one ∷ all) bases [] worker seq none within low below = absurd (omega (arith, below))
from-known from (one ∷ all) bases (count ∷ counts) zero seq none within low below =
    let parts = lacks-none (nat_lt (missing_at bases from one) count) (from, missing_at bases from one)
    (lacking_from (from + 1) all bases counts) none in
    let same : from + 0 ≡ from = omega arith in
    is_known-below (length one.known) (slice_index bases from) seq one.known
    (subst (λ (n : ℕ). slice_index bases n ≤ seq) same low)
    (omega (arith, below, ltb-false (missing_at bases from one) count parts.0))
from-known from (one ∷ all) bases (count ∷ counts) (suc worker) seq none within low below =
    let parts = lacks-none (nat_lt (missing_at bases from one) count) (from, missing_at bases from one)
    (lacking_from (from + 1) all bases counts) none in
    let same : from + suc worker ≡ (from + 1) + worker = omega arith in
    from-known (from + 1) all bases counts worker seq parts.1 (omega (arith, within))
    (subst (λ (n : ℕ). slice_index bases n ≤ seq) same low) below

-- ---- where frames are gained

pub gains-workers : GainsLeaveWorkers
gains-workers all [] = refl
gains-workers [] (base ∷ bases) = refl
gains-workers (one ∷ all) (base ∷ bases) = ap suc (gains-workers all bases)

pub gains-kept : GainsLeaveKept
gains-kept all [] worker seq = refl
gains-kept [] (base ∷ bases) worker seq = refl
gains-kept (one ∷ all) (base ∷ bases) zero seq = refl
gains-kept (one ∷ all) (base ∷ bases) (suc worker) seq = gains-kept all bases worker seq

pub gains-known : GainsAreKnown
gains-known all [] worker seq within =
    sym (ap (λ (b : Bool). b || is_known (known_of all worker) seq) (le-ltb seq 0 (omega arith)))
gains-known [] (base ∷ bases) worker seq within = absurd (omega (arith, within))
gains-known (one ∷ all) (base ∷ bases) zero seq within = below-known base one.known seq
gains-known (one ∷ all) (base ∷ bases) (suc worker) seq within = gains-known all bases worker seq (omega (arith, within))

-- ---- a frame is handed out

is_at-apart : (seq other : ℕ) → (other ≡ seq → ⊥) → is_at (nat_cmp other) seq ≡ false
is_at-apart seq other apart = elim (cases_Bool (is_at (nat_cmp other) seq)) [
  | inl same ↦ absurd (apart (is_at-is other seq same))
  | inr other ↦ other
]

-- any other is found as before
others-found : (kept : List (ℕ × Frame)) (seq other : ℕ) → (other ≡ seq → ⊥)
    → frame_in (remove_entry (is_at (nat_cmp seq)) kept) other ≡ frame_in kept other
others-found [] seq other apart = refl
others-found (entry ∷ kept) seq other apart =
    by (others-found kept seq other apart) (is_at (nat_cmp seq) entry.0) refl
  where
    by : frame_in (remove_entry (is_at (nat_cmp seq)) kept) other ≡ frame_in kept other → (here : Bool)
        → is_at (nat_cmp seq) entry.0 ≡ here
        → frame_in (cond here kept (entry ∷ remove_entry (is_at (nat_cmp seq)) kept)) other ≡ frame_in (entry ∷ kept) other
    by rest true is =
        let key : seq ≡ entry.0 = is_at-is seq entry.0 is in
        sym (cond-false (is_at (nat_cmp other) entry.0) (Some entry.1) (frame_in kept other)
        (is_at-apart entry.0 other (λ e. apart (e ∙ sym key))))
    by rest false is = ap (λ (found : Option Frame). cond (is_at (nat_cmp other) entry.0) (Some entry.1) found) rest

pub releases-others : ReleasesLeaveOthers
releases-others all worker seq other apart = elim (cases_lt worker (length all)) [
  | inl within ↦ ap (λ (of_worker : Arrivals). frame_in of_worker.kept other)
      (get_or-set_same all worker (without_frame (arrivals_of all worker) seq) nothing within)
      ∙ others-found (arrivals_of all worker).kept seq other apart
  | inr past ↦ ap (λ (l : List Arrivals). frame_in (get_or l worker nothing).kept other)
      (set_past all worker (without_frame (arrivals_of all worker) seq) past)
]

pub releases-workers : ReleasesLeaveWorkers
releases-workers all worker seq = length-set all worker (without_frame (arrivals_of all worker) seq)
