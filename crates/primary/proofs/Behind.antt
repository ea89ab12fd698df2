-- Frames behind a base: they are those that the later commits have alone, shifted.
use Rattle.std.proofs.Common.{◌≡◌, ◌+◌, ◌-◌, ◌<◌, ◌≤◌, ◌==◌, ℕ, suc, zero, Bool, true, false, cond}
use Rattle.std.proofs.Common.{List, [], ◌∷◌, ◌++◌, length, map, take, drop}
use Rattle.std.proofs.Common.{Option, None, Some, slice_get, nat_lt, refl, sym, ap, subst, ◌∙◌, length-append, arith, inl, inr}
use Rattle.std.specs.List.{AllByRecursion}
use Rattle.std.specs.Option.{option_map}
use Rattle.std.specs.Prelude.{unwrap_or}
use Rattle.std.proofs.lemmas.Bool.{cases_lt, le-ltb, ne_eqb}
use Rattle.std.proofs.lemmas.List.{take-append-drop, take-append-le, drop-append-le, length-map, length-drop}
use Rattle.std.proofs.lemmas.Option.{slice_get-map, slice_get_past}
use Rattle.std.proofs.Math.Seq.{take-add}
use Rattle.rows.specs.declared.commit.Commit.{Commit}
use Rattle.rows.specs.declared.entry.Entry.{Entry}
use Rattle.rows.specs.Commits.{IsCommit}
use Rattle.rows.specs.Limits.{workers_max}
use Rattle.update_log.specs.declared.frame.Frame.{Frame}
use Rattle.update_log.specs.Frames.{frames_from, frames_of}
use Rattle.update_log.specs.Laws.{StreamGoesOn}
use Rattle.update_log.specs.Parts.{parts_of}
use Rattle.update_log.specs.Streams.{AreStreamsOf, stream_from, stream_of, frame_count, shifted}
use Rattle.primary.specs.declared.tail.Tail.{Tail}
use Rattle.primary.specs.Journaling.{AreNumbered}
use Rattle.primary.specs.Inner.Tail.{IsTailOf, low_in}
use Rattle.primary.specs.Sending.{counts_of}
use Rattle.primary.proofs.Elements.{all-append}
use Rattle.primary.proofs.Streams.{length_counts}

-- a stream is that of the commits up to a base, and behind it that of the others alone, shifted
pub stream-at : (law : StreamGoesOn) (commits : List Commit) (worker base : ℕ)
    → stream_of commits worker
    ≡ stream_of (take base commits) worker
    ++ map (shifted (length (take base commits)) (frame_count commits worker base)) (stream_of (drop base commits) worker)
stream-at law commits worker base =
    ap (λ cs. stream_of cs worker) (sym (take-append-drop base commits)) ∙ law (take base commits) (drop base commits) worker

-- so many frames are in it
pub total-at : (law : StreamGoesOn) (commits : List Commit) (worker base : ℕ)
    → length (stream_of commits worker) ≡ frame_count commits worker base + length (stream_of (drop base commits) worker)
total-at law commits worker base =
    let behind = stream_of (drop base commits) worker in
    let shift : Frame → Frame = shifted (length (take base commits)) (frame_count commits worker base) in
    let moved = map shift behind in
    ap length (stream-at law commits worker base)
    ∙ length-append (stream_of (take base commits) worker) moved
    ∙ ap (λ n. frame_count commits worker base + n) (length-map behind shift)

-- and so many at a version that is not before the base
pub count-at : (law : StreamGoesOn) (commits : List Commit) (worker base version : ℕ) → base ≤ version
    → frame_count commits worker version ≡ frame_count commits worker base + frame_count (drop base commits) worker (version - base)
count-at law commits worker base version h =
    let n = version - base in
    let front = take base commits in
    let back = take n (drop base commits) in
    let sum : version ≡ base + n = omega arith in
    let whole : take version commits ≡ front ++ back = ap (λ k. take k commits) sum ∙ take-add base n commits in
    let shift : Frame → Frame = shifted (length front) (length (stream_of front worker)) in
    let moved = map shift (stream_of back worker) in
    ap (λ cs. length (stream_of cs worker)) whole
    ∙ ap length (law front back worker)
    ∙ length-append (stream_of front worker) moved
    ∙ ap (λ k. length (stream_of front worker) + k) (length-map (stream_of back worker) shift)

-- the element behind a front
get-behind : {X : Type 0} (xs ys : List X) (i : ℕ) → length xs ≤ i → slice_get (xs ++ ys) i ≡ slice_get ys (i - length xs)
get-behind [] ys i h =
    let same : i ≡ i - 0 = omega arith in
    ap (slice_get ys) same
get-behind (x ∷ xs) ys zero h = absurd (omega (arith, h))
get-behind (x ∷ xs) ys (suc i) h =
    let same : i - length xs ≡ suc i - suc (length xs) = omega arith in
    get-behind xs ys i (omega arith) ∙ ap (slice_get ys) same

-- a frame that is behind the base
pub frame-at : (law : StreamGoesOn) (commits : List Commit) (worker base seq : ℕ) → frame_count commits worker base ≤ seq
    → slice_get (stream_of commits worker) seq
    ≡ option_map (shifted (length (take base commits)) (frame_count commits worker base))
    (slice_get (stream_of (drop base commits) worker) (seq - frame_count commits worker base))
frame-at law commits worker base seq h =
    let front = stream_of (take base commits) worker in
    let behind = stream_of (drop base commits) worker in
    let shift : Frame → Frame = shifted (length (take base commits)) (frame_count commits worker base) in
    ap (λ stream. slice_get stream seq) (stream-at law commits worker base)
    ∙ get-behind front (map shift behind) seq h
    ∙ slice_get-map shift behind (seq - length front)

-- numbers behind a base
pub numbered-behind : (law : StreamGoesOn) (commits : List Commit) (base : ℕ) → AreNumbered commits → AreNumbered (drop base commits)
numbered-behind law commits base numbered = record {
  commits_below = omega (arith, length-drop base commits, numbered.commits_below);
  frames_below = λ worker. omega (arith, total-at law commits worker base, numbered.frames_below worker);
}

-- ---- the numbers of commits

parts-within : (worker number seq : ℕ) (parts : List (List Entry))
    → AllByRecursion (λ (frame : Frame). frame.commit ≤ number) (frames_from worker number seq parts)
parts-within worker number seq [] = tt
parts-within worker number seq (part ∷ parts) = (omega arith, parts-within worker number (seq + 1) parts)

all-weaker : (n m : ℕ) (frames : List Frame) → n ≤ m → AllByRecursion (λ (frame : Frame). frame.commit ≤ n) frames
    → AllByRecursion (λ (frame : Frame). frame.commit ≤ m) frames
all-weaker n m [] h all = tt
all-weaker n m (frame ∷ frames) h all = (omega (arith, all.0), all-weaker n m frames h all.1)

-- no frame's commit is behind the last
commits-within : (worker before first : ℕ) (commits : List Commit)
    → AllByRecursion (λ (frame : Frame). frame.commit ≤ before + length commits) (stream_from worker before first commits)
commits-within worker before first [] = tt
commits-within worker before first (commit ∷ commits) =
    by (commit.worker == worker) (λ next. commits-within worker (before + 1) next commits)
  where
    by : (ours : Bool)
        → ((next : ℕ) → AllByRecursion (λ (frame : Frame). frame.commit ≤ before + 1 + length commits)
        (stream_from worker (before + 1) next commits))
        → AllByRecursion (λ (frame : Frame). frame.commit ≤ before + suc (length commits))
        (cond ours (frames_of commit (before + 1) first) []
        ++ stream_from worker (before + 1) (first + length (cond ours (frames_of commit (before + 1) first) [])) commits)
    by false rest =
        all-weaker (before + 1 + length commits) (before + suc (length commits)) (stream_from worker (before + 1) (first + 0) commits)
        (omega arith) (rest (first + 0))
    by true rest =
        let own : List Frame = frames_of commit (before + 1) first in
        all-append (λ (frame : Frame). frame.commit ≤ before + suc (length commits)) own
        (stream_from worker (before + 1) (first + length own) commits)
        (all-weaker (before + 1) (before + suc (length commits)) own (omega arith)
        (parts-within commit.worker (before + 1) first (parts_of commit.entries)))
        (all-weaker (before + 1 + length commits) (before + suc (length commits))
        (stream_from worker (before + 1) (first + length own) commits) (omega arith) (rest (first + length own)))

all-found : (n : ℕ) (frames : List Frame) (i : ℕ) (frame : Frame) → AllByRecursion (λ (frame : Frame). frame.commit ≤ n) frames
    → Some frame ≡ slice_get frames i → frame.commit ≤ n
all-found n [] i frame all e = absurd cc
all-found n (first ∷ frames) zero frame all e =
    let same : frame ≡ first = ap (λ found. unwrap_or found frame) e in
    omega (arith, all.0, ap (λ (f : Frame). f.commit) same)
all-found n (first ∷ frames) (suc i) frame all e = all-found n frames i frame all.1 e

pub commit-within : (commits : List Commit) (worker seq : ℕ) (frame : Frame) → Some frame ≡ slice_get (stream_of commits worker) seq
    → frame.commit ≤ length commits
commit-within commits worker seq frame e =
    omega (arith, all-found (0 + length commits) (stream_of commits worker) seq frame (commits-within worker 0 0 commits) e)

-- ---- the seqs of frames

-- these frames have the seqs from the first on
abbrev AreSeqs : ℕ → List Frame → Type 0
AreSeqs first [] = Unit {0}
AreSeqs first (frame ∷ frames) = (frame.seq ≡ first) × AreSeqs (first + 1) frames

seqs-append : (first : ℕ) (xs ys : List Frame) → AreSeqs first xs → AreSeqs (first + length xs) ys → AreSeqs first (xs ++ ys)
seqs-append first [] ys front back =
    let same : first + 0 ≡ first = omega arith in
    subst (λ n. AreSeqs n ys) same back
seqs-append first (x ∷ xs) ys front back =
    let same : first + suc (length xs) ≡ first + 1 + length xs = omega arith in
    (front.0, seqs-append (first + 1) xs ys front.1 (subst (λ n. AreSeqs n ys) same back))

parts-seqs : (worker number seq : ℕ) (parts : List (List Entry)) → AreSeqs seq (frames_from worker number seq parts)
parts-seqs worker number seq [] = tt
parts-seqs worker number seq (part ∷ parts) = (refl, parts-seqs worker number (seq + 1) parts)

stream-seqs : (worker before first : ℕ) (commits : List Commit) → AreSeqs first (stream_from worker before first commits)
stream-seqs worker before first [] = tt
stream-seqs worker before first (commit ∷ commits) =
    let own : List Frame = cond (commit.worker == worker) (frames_of commit (before + 1) first) [] in
    seqs-append first own (stream_from worker (before + 1) (first + length own) commits) (by (commit.worker == worker))
    (stream-seqs worker (before + 1) (first + length own) commits)
  where
    by : (ours : Bool) → AreSeqs first (cond ours (frames_of commit (before + 1) first) [])
    by false = tt
    by true = parts-seqs commit.worker (before + 1) first (parts_of commit.entries)

seq-found : (first : ℕ) (frames : List Frame) (i : ℕ) (frame : Frame) → AreSeqs first frames → Some frame ≡ slice_get frames i
    → frame.seq ≡ first + i
seq-found first [] i frame seqs e = absurd cc
seq-found first (x ∷ frames) zero frame seqs e =
    let same : frame ≡ x = ap (λ found. unwrap_or found frame) e in
    omega (arith, seqs.0, ap (λ (f : Frame). f.seq) same)
seq-found first (x ∷ frames) (suc i) frame seqs e = omega (arith, seq-found (first + 1) frames i frame seqs.1 e)

-- a frame's seq is its index
pub seq-at : (commits : List Commit) (worker seq : ℕ) (frame : Frame) → Some frame ≡ slice_get (stream_of commits worker) seq
    → frame.seq ≡ seq
seq-at commits worker seq frame e = omega (arith, seq-found 0 (stream_of commits worker) seq frame (stream-seqs worker 0 0 commits) e)

-- ---- what is kept

-- what is not below the base is kept
pub kept-get : {X : Type 0} (seq low : ℕ) (x : Option X) → low ≤ seq → cond (nat_lt seq low) None x ≡ x
kept-get seq low x h = ap (λ b. cond b None x) (le-ltb seq low h)

-- a tail with one commit more
pub tail-more : (tail now : Tail) (commits : List Commit) (commit : Commit) → IsTailOf tail commits → now.base ≡ tail.base
    → now.lows ≡ tail.lows
    → AreStreamsOf now.streams.streams (drop tail.base commits ++ commit ∷ [])
    → IsTailOf now (commits ++ commit ∷ [])
tail-more tail now commits commit kept same lows framed =
    let more = commits ++ commit ∷ [] in
    let front : take tail.base more ≡ take tail.base commits = take-append-le tail.base commits (commit ∷ []) kept.within in
    let back : drop tail.base more ≡ drop tail.base commits ++ commit ∷ [] = drop-append-le tail.base commits (commit ∷ []) kept.within in
    record {
      within = omega (arith, same, kept.within, length-append commits (commit ∷ []));
      lows = λ worker.
          ap (λ (counts : List ℕ). low_in counts worker) lows ∙ kept.lows worker
          ∙ ap (λ cs. length (stream_of cs worker)) (sym front)
          ∙ ap (λ b. frame_count more worker b) (sym same);
      framed = subst (λ b. AreStreamsOf now.streams.streams (drop b more)) (sym same)
          (subst (AreStreamsOf now.streams.streams) (sym back) framed);
    }

-- a worker that no commit is of has no frames
pub none-of : (worker before first : ℕ) (commits : List Commit) → workers_max ≤ worker → AllByRecursion (IsCommit workers_max) commits
    → stream_from worker before first commits ≡ []
none-of worker before first [] past each = refl
none-of worker before first (commit ∷ commits) past each =
    let theirs : (commit.worker == worker) ≡ false = ne_eqb commit.worker worker (λ same. omega (arith, same, past, each.0.worker)) in
    ap (λ b. cond b (frames_of commit (before + 1) first) []
    ++ stream_from worker (before + 1) (first + length (cond b (frames_of commit (before + 1) first) [])) commits) theirs
    ∙ none-of worker (before + 1) (first + 0) commits past each.1

-- an element of a front, and the one behind it
get-front : (xs ys : List ℕ) (i : ℕ) → i < length xs → slice_get (xs ++ ys) i ≡ slice_get xs i
get-front [] ys i h = absurd (omega (arith, h))
get-front (x ∷ xs) ys zero h = refl
get-front (x ∷ xs) ys (suc i) h = get-front xs ys i (omega arith)

get-pushed : (xs : List ℕ) (x i : ℕ) → i ≡ length xs → slice_get (xs ++ x ∷ []) i ≡ Some x
get-pushed xs x i e =
    let none : i - length xs ≡ 0 = omega (arith, e) in
    get-behind xs (x ∷ []) i (omega (arith, e)) ∙ ap (slice_get (x ∷ [])) none

-- the count of each of so many workers
counts-get : (commits : List Commit) (version workers worker : ℕ) → worker < workers
    → slice_get (counts_of commits version workers) worker ≡ Some (frame_count commits worker version)
counts-get commits version zero worker h = absurd (omega (arith, h))
counts-get commits version (suc workers) worker h = elim (cases_lt worker workers) [
  | inl front ↦
      get-front (counts_of commits version workers) (frame_count commits workers version ∷ []) worker
      (omega (arith, front, length_counts commits version workers))
      ∙ counts-get commits version workers worker front
  | inr back ↦
      let same : worker ≡ workers = omega arith in
      get-pushed (counts_of commits version workers) (frame_count commits workers version) worker
      (omega (arith, same, length_counts commits version workers))
      ∙ ap (λ w. Some (frame_count commits w version)) (sym same)
]

-- the count of each worker, where those of all are kept
pub lows-at : (commits : List Commit) (base worker : ℕ) → AllByRecursion (IsCommit workers_max) (take base commits)
    → low_in (counts_of commits base workers_max) worker ≡ frame_count commits worker base
lows-at commits base worker each = elim (cases_lt worker workers_max) [
  | inl there ↦ ap (λ found. unwrap_or found 0) (counts-get commits base workers_max worker there)
  | inr past ↦
      ap (λ found. unwrap_or found 0)
      (slice_get_past (counts_of commits base workers_max) worker (omega (arith, past, length_counts commits base workers_max)))
      ∙ ap length (sym (none-of worker 0 0 (take base commits) past each))
]
