-- Spans and the frames that they tell of: the frames of the spans of commits are the streams of these commits.
use Rattle.std.proofs.Common.{◌≡◌, ℕ, zero, suc, ◌+◌, ◌-◌, ◌<◌, ◌≤◌, ◌==◌, Bool, true, false, cond, List, [], ◌∷◌, ◌++◌, length}
use Rattle.std.proofs.Common.{take, drop, refl, sym, ap, ◌∙◌, append_assoc, append-nil, length-append, arith}
use Rattle.std.specs.Prelude.{Option, Some, slice_get}
use Rattle.std.specs.List.{AllByRecursion}
use Rattle.std.specs.Option.{option_map}
use Rattle.std.proofs.lemmas.Bool.{eqb-true, eq-eqb, ne_eqb}
use Rattle.rows.specs.declared.commit.Commit.{Commit}
use Rattle.rows.specs.declared.entry.Entry.{Entry}
use Rattle.update_log.specs.declared.frame.Frame.{Frame}
use Rattle.update_log.specs.declared.span.Span.{Span}
use Rattle.update_log.specs.Parts.{joined, parts_of}
use Rattle.update_log.specs.Frames.{frames_from, frames_of}
use Rattle.update_log.specs.Streams.{stream_from, stream_of}
use Rattle.update_log.specs.Inner.Spans.{IsSpanIn, entries_at, frame_at, spans_from, spans_of, stream_spans_from, stream_spans}
use Rattle.update_log.proofs.Elements.{all-append}
use Rattle.update_log.proofs.Uniqueness.{joined-parts, some-parts}

-- ---- as many as frames

from-counted : (worker number start seq : ℕ) (parts : List (List Entry))
    → length (spans_from number start parts) ≡ length (frames_from worker number seq parts)
from-counted worker number start seq [] = refl
from-counted worker number start seq (part ∷ parts) = ap suc (from-counted worker number (start + length part) (seq + 1) parts)

pub spans-counted : (worker before first : ℕ) (commits : List Commit)
    → length (stream_spans_from worker before commits) ≡ length (stream_from worker before first commits)
spans-counted worker before first [] = refl
spans-counted worker before first (commit ∷ commits) =
    one (commit.worker == worker) (λ next. spans-counted worker (before + 1) next commits)
  where
    one : (ours : Bool)
        → ((next : ℕ) → length (stream_spans_from worker (before + 1) commits) ≡ length (stream_from worker (before + 1) next commits))
        → length (cond ours (spans_of commit.entries (before + 1)) [] ++ stream_spans_from worker (before + 1) commits)
        ≡ length (cond ours (frames_of commit (before + 1) first) []
        ++ stream_from worker (before + 1) (first + length (cond ours (frames_of commit (before + 1) first) [])) commits)
    one false rest = rest (first + 0)
    one true rest =
        let next = first + length (frames_of commit (before + 1) first) in
        omega (
          arith,
          length-append (spans_of commit.entries (before + 1)) (stream_spans_from worker (before + 1) commits),
          length-append (frames_of commit (before + 1) first) (stream_from worker (before + 1) next commits),
          from-counted commit.worker (before + 1) 0 first (parts_of commit.entries),
          rest next,
        )

-- ---- the frames of spans

-- the frames of these spans of a worker, the first with that seq
abbrev pub frames_at : List Commit → ℕ → ℕ → List Span → List Frame
frames_at all worker seq [] = []
frames_at all worker seq (span ∷ spans) = frame_at all worker seq span ∷ frames_at all worker (seq + 1) spans

frames_at-append : (all : List Commit) (worker seq : ℕ) (front back : List Span)
    → frames_at all worker seq (front ++ back) ≡ frames_at all worker seq front ++ frames_at all worker (seq + length front) back
frames_at-append all worker seq [] back =
    let same : seq ≡ seq + 0 = omega arith in ap (λ (n : ℕ). frames_at all worker n back) same
frames_at-append all worker seq (span ∷ front) back =
    let same : seq + 1 + length front ≡ seq + suc (length front) = omega arith in
    ap (λ (more : List Frame). frame_at all worker seq span ∷ more)
    (frames_at-append all worker (seq + 1) front back
    ∙ ap (λ (n : ℕ). frames_at all worker (seq + 1) front ++ frames_at all worker n back) same)

pub frames_at-get : (all : List Commit) (worker seq : ℕ) (spans : List Span) (i : ℕ)
    → slice_get (frames_at all worker seq spans) i ≡ option_map (frame_at all worker (seq + i)) (slice_get spans i)
frames_at-get all worker seq [] i = refl
frames_at-get all worker seq (span ∷ spans) zero =
    let same : seq ≡ seq + 0 = omega arith in ap (λ (n : ℕ). Some (frame_at all worker n span)) same
frames_at-get all worker seq (span ∷ spans) (suc i) =
    let same : seq + 1 + i ≡ seq + suc i = omega arith in
    frames_at-get all worker (seq + 1) spans i
    ∙ ap (λ (n : ℕ). option_map (frame_at all worker n) (slice_get spans i)) same

-- ---- of one commit

take-front : (part rest : List Entry) → take (length part) (part ++ rest) ≡ part
take-front [] rest = refl
take-front (entry ∷ part) rest = ap (λ (more : List Entry). entry ∷ more) (take-front part rest)

drop-front : (part rest : List Entry) → drop (length part) (part ++ rest) ≡ rest
drop-front [] rest = refl
drop-front (entry ∷ part) rest = drop-front part rest

drop-none : (n : ℕ) → ◌≡◌ {A = List Entry} (drop n []) []
drop-none zero = refl
drop-none (suc n) = refl

drop-drop : (n m : ℕ) (entries : List Entry) → drop (n + m) entries ≡ drop m (drop n entries)
drop-drop n m [] = drop-none (n + m) ∙ sym (drop-none m) ∙ ap (drop m) (sym (drop-none n))
drop-drop zero m (entry ∷ entries) =
    let same : 0 + m ≡ m = omega arith in ap (λ (k : ℕ). drop k (entry ∷ entries)) same
drop-drop (suc n) m (entry ∷ entries) =
    let same : suc n + m ≡ suc (n + m) = omega arith in
    ap (λ (k : ℕ). drop k (entry ∷ entries)) same ∙ drop-drop n m entries

-- the last part ends where the entries do
last-is : (part : List Entry) (parts : List (List Entry)) (start total : ℕ) → AllByRecursion (λ part. 0 < length part) parts
    → total ≡ start + length (part ++ joined parts) → (start + length part == total) ≡ (length parts == 0)
last-is part [] start total some is =
    eq-eqb (start + length part) total (omega (arith, length-append part []))
last-is part (next ∷ parts) start total some is =
    ne_eqb (start + length part) total
    (λ e. absurd (omega (arith, some.0, length-append part (next ++ joined parts), length-append next (joined parts))))
    ∙ sym (ne_eqb (length (next ∷ parts)) 0 (λ e. absurd (omega arith)))

pub commit-framed : (all : List Commit) (worker number seq start : ℕ) (entries : List Entry) (parts : List (List Entry))
    → entries_at all number ≡ entries → AllByRecursion (λ part. 0 < length part) parts → drop start entries ≡ joined parts
    → length entries ≡ start + length (joined parts)
    → frames_at all worker seq (spans_from number start parts) ≡ frames_from worker number seq parts
commit-framed all worker number seq start entries [] at some left long = refl
commit-framed all worker number seq start entries (part ∷ parts) at some left long =
    let span : Span = record { commit = number; start = start; end = start + length part } in
    let taken : start + length part - start ≡ length part = omega arith in
    let last : (start + length part == length entries) ≡ (length parts == 0) =
    last-is part parts start (length entries) some.1 long in
    let held : take (start + length part - start) (drop start entries) ≡ part =
    ap (λ (n : ℕ). take n (drop start entries)) taken
    ∙ ap (take (length part)) left ∙ take-front part (joined parts) in
    let frame : Bool → List Entry → Frame =
    λ last held. record { worker = worker; seq = seq; commit = number; last = last; entries = held } in
    let this : frame_at all worker seq span ≡ frame (length parts == 0) part =
    ap (λ (own : List Entry). frame (start + length part == length own) (take (start + length part - start) (drop start own))) at
    ∙ ap (λ (l : Bool). frame l (take (start + length part - start) (drop start entries))) last
    ∙ ap (frame (length parts == 0)) held in
    let behind : drop (start + length part) entries ≡ joined parts =
    drop-drop start (length part) entries ∙ ap (drop (length part)) left ∙ drop-front part (joined parts) in
    ap (λ (f : Frame). f ∷ frames_at all worker (seq + 1) (spans_from number (start + length part) parts)) this
    ∙ ap (λ (more : List Frame). frame (length parts == 0) part ∷ more)
    (commit-framed all worker number (seq + 1) (start + length part) entries parts at some.1 behind
    (omega (arith, length-append part (joined parts))))

-- ---- of a list of commits

next-at : (all : List Commit) (before : ℕ) (commit : Commit) (commits : List Commit)
    → ((i : ℕ) → slice_get all (before + i) ≡ slice_get (commit ∷ commits) i) → entries_at all (before + 1) ≡ commit.entries
next-at all before commit commits same =
    let first : before + 1 - 1 ≡ before + 0 = omega arith in
    let found : slice_get all (before + 1 - 1) ≡ Some commit = ap (slice_get all) first ∙ same 0 in
    cc

later-at : (all : List Commit) (before : ℕ) (commit : Commit) (commits : List Commit)
    → ((i : ℕ) → slice_get all (before + i) ≡ slice_get (commit ∷ commits) i)
    → (i : ℕ) → slice_get all (before + 1 + i) ≡ slice_get commits i
later-at all before commit commits same i =
    let next : before + 1 + i ≡ before + suc i = omega arith in
    ap (slice_get all) next ∙ same (suc i)

stream-framed-from : (all : List Commit) (worker before first : ℕ) (commits : List Commit)
    → ((i : ℕ) → slice_get all (before + i) ≡ slice_get commits i)
    → frames_at all worker first (stream_spans_from worker before commits) ≡ stream_from worker before first commits
stream-framed-from all worker before first [] same = refl
stream-framed-from all worker before first (commit ∷ commits) same =
    one (commit.worker == worker) (λ e. eqb-true commit.worker worker e)
    (λ next. stream-framed-from all worker (before + 1) next commits (later-at all before commit commits same))
  where
    own : List Span
    own = spans_of commit.entries (before + 1)

    rest : List Span
    rest = stream_spans_from worker (before + 1) commits

    one : (ours : Bool) → (ours ≡ true → commit.worker ≡ worker)
        → ((next : ℕ) → frames_at all worker next rest ≡ stream_from worker (before + 1) next commits)
        → frames_at all worker first (cond ours own [] ++ rest) ≡ cond ours (frames_of commit (before + 1) first) []
        ++ stream_from worker (before + 1) (first + length (cond ours (frames_of commit (before + 1) first) [])) commits
    one false mine later =
        let next : first ≡ first + 0 = omega arith in
        later first ∙ ap (λ (n : ℕ). stream_from worker (before + 1) n commits) next
    one true mine later =
        let parts = parts_of commit.entries in
        let framed : frames_at all worker first own ≡ frames_of commit (before + 1) first =
        commit-framed all worker (before + 1) first 0 commit.entries parts (next-at all before commit commits same)
        (some-parts commit.entries) (sym (joined-parts commit.entries))
        (let long : length commit.entries ≡ 0 + length (joined parts) = omega (arith, ap length (joined-parts commit.entries)) in long)
        ∙ ap (λ (w : ℕ). frames_from w (before + 1) first parts) (sym (mine refl)) in
        let next : first + length own ≡ first + length (frames_of commit (before + 1) first) =
        omega (arith, from-counted commit.worker (before + 1) 0 first parts) in
        frames_at-append all worker first own rest
        ∙ ap (λ (front : List Frame). front ++ frames_at all worker (first + length own) rest) framed
        ∙ ap (λ (n : ℕ). frames_of commit (before + 1) first ++ frames_at all worker n rest) next
        ∙ ap (λ (back : List Frame). frames_of commit (before + 1) first ++ back)
        (later (first + length (frames_of commit (before + 1) first)))

-- the frames of a stream's spans are the stream
pub stream-framed : (commits : List Commit) (worker : ℕ)
    → frames_at commits worker 0 (stream_spans commits worker) ≡ stream_of commits worker
stream-framed commits worker =
    stream-framed-from commits worker 0 0 commits
    (λ i. let same : 0 + i ≡ i = omega arith in ap (slice_get commits) same)

pub frame-found : (commits : List Commit) (worker seq : ℕ) (found : Option Span) → found ≡ slice_get (stream_spans commits worker) seq
    → option_map (frame_at commits worker seq) found ≡ slice_get (stream_of commits worker) seq
frame-found commits worker seq found is =
    let spans = stream_spans commits worker in
    let same : seq ≡ 0 + seq = omega arith in
    ap (option_map (frame_at commits worker seq)) is
    ∙ ap (λ (n : ℕ). option_map (frame_at commits worker n) (slice_get spans seq)) same
    ∙ sym (frames_at-get commits worker 0 spans seq)
    ∙ ap (λ (frames : List Frame). slice_get frames seq) (stream-framed commits worker)

-- ---- each span is of one of the commits

commit-within : (all : List Commit) (number start : ℕ) (entries : List Entry) (parts : List (List Entry)) → 0 < number
    → number ≤ length all → entries_at all number ≡ entries → length entries ≡ start + length (joined parts)
    → AllByRecursion (IsSpanIn all) (spans_from number start parts)
commit-within all number start entries [] numbered there at long = tt
commit-within all number start entries (part ∷ parts) numbered there at long =
    let joins = length-append part (joined parts) in (
      record { numbered = numbered; there = there; upto = omega arith; within = omega (arith, joins, ap length at) },
      commit-within all number (start + length part) entries parts numbered there at (omega (arith, joins)),
    )

stream-within-from : (all : List Commit) (worker before : ℕ) (commits : List Commit)
    → ((i : ℕ) → slice_get all (before + i) ≡ slice_get commits i) → before + length commits ≡ length all
    → AllByRecursion (IsSpanIn all) (stream_spans_from worker before commits)
stream-within-from all worker before [] same counted = tt
stream-within-from all worker before (commit ∷ commits) same counted =
    one (commit.worker == worker)
    (stream-within-from all worker (before + 1) commits (later-at all before commit commits same) (omega (arith, counted)))
  where
    one : (ours : Bool) → AllByRecursion (IsSpanIn all) (stream_spans_from worker (before + 1) commits)
        → AllByRecursion (IsSpanIn all)
        (cond ours (spans_of commit.entries (before + 1)) [] ++ stream_spans_from worker (before + 1) commits)
    one false later = later
    one true later =
        all-append (IsSpanIn all) (spans_of commit.entries (before + 1)) (stream_spans_from worker (before + 1) commits)
        (commit-within all (before + 1) 0 commit.entries (parts_of commit.entries) (omega arith) (omega (arith, counted))
        (next-at all before commit commits same) (omega (arith, ap length (joined-parts commit.entries)))) later

pub stream-within : (commits : List Commit) (worker : ℕ) → AllByRecursion (IsSpanIn commits) (stream_spans commits worker)
stream-within commits worker =
    stream-within-from commits worker 0 commits (λ i. let same : 0 + i ≡ i = omega arith in ap (slice_get commits) same) (omega arith)

-- ---- cutting

-- the span of one more part goes behind those so far
pub spans-more : (spans all : List Span) (number start n : ℕ) (rest behind : List Entry) → behind ≡ drop n rest
    → parts_of rest ≡ take n rest ∷ parts_of (drop n rest) → length (take n rest) ≡ n
    → spans ++ spans_from number start (parts_of rest) ≡ all
    → (spans ++ record { commit = number; start = start; end = start + n } ∷ []) ++ spans_from number (start + n) (parts_of behind) ≡ all
spans-more spans all number start n rest behind behind_is cut long so_far =
    let span : ℕ → Span = λ n. record { commit = number; start = start; end = start + n } in
    append_assoc spans (span n ∷ []) (spans_from number (start + n) (parts_of behind))
    ∙ ap (λ (b : List Entry). spans ++ span n ∷ spans_from number (start + n) (parts_of b)) behind_is
    ∙ ap (λ (m : ℕ). spans ++ span m ∷ spans_from number (start + m) (parts_of (drop n rest))) (sym long)
    ∙ ap (λ (parts : List (List Entry)). spans ++ spans_from number start parts) (sym cut)
    ∙ so_far

-- where no entry is left, those so far are all
pub spans-end : (spans all : List Span) (number start : ℕ) (rest : List Entry) → (length rest == 0) ≡ true
    → spans ++ spans_from number start (parts_of rest) ≡ all → spans ≡ all
spans-end spans all number start [] none so_far = sym (append-nil spans) ∙ so_far
spans-end spans all number start (entry ∷ rest) none so_far = absurd (omega (arith, eqb-true (length (entry ∷ rest)) 0 none))
