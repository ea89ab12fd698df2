-- What is sent of a list of commits: each frame of a stream by its worker and its seq, and the counts of a Head.
use Rattle.std.proofs.Common.{◌≡◌, ℕ, zero, suc, ◌+◌, ◌^◌, ◌<◌, ◌≤◌, Bool, true, false, cond, ◌==◌, List, [], ◌∷◌, ◌++◌, length, take, drop}
use Rattle.std.proofs.Common.{Some, get_or, refl, sym, ap, ◌∙◌, ◌⊎◌, inl, inr, arith}
use Rattle.std.specs.List.{slice_get, AllByRecursion}
use Rattle.std.proofs.lemmas.Bool.{cases_lt, eqb-true}
use Rattle.std.proofs.lemmas.List.{get_or_append_left, get_or_past, get_or-append-add, length-append}
use Rattle.std.proofs.lemmas.Option.{none-some}
use Rattle.rows.specs.declared.commit.Commit.{Commit}
use Rattle.rows.specs.declared.entry.Entry.{Entry}
use Rattle.rows.specs.Commits.{IsCommit}
use Rattle.update_log.specs.declared.frame.Frame.{Frame}
use Rattle.update_log.specs.Frames.{frames_from, frames_of}
use Rattle.update_log.specs.Parts.{parts_of}
use Rattle.update_log.specs.Streams.{stream_from, stream_of, frame_count}
use Rattle.ordering.specs.Cutting.{AreFrameCounts}
use Rattle.primary.specs.Sending.{counts_of}
use Rattle.world.proofs.Lists.{All-append, All-front}

-- ---- frames

-- what stands at an index of two lists joined, by how far it is behind the first
get-behind : {A : Type 0} (xs ys : List A) (i : ℕ) (x : A) → slice_get (xs ++ ys) i ≡ Some x → (slice_get xs i ≡ Some x)
    ⊎ ((j : ℕ) × (i ≡ length xs + j) × (slice_get ys j ≡ Some x))
get-behind [] ys i x h = inr (i, omega arith, h)
get-behind (y ∷ xs) ys zero x h = inl h
get-behind (y ∷ xs) ys (suc i) x h = elim (get-behind xs ys i x h) [
  | inl front ↦ inl front
  | inr back ↦ inr (back.0, (let index = back.1 in omega arith), back.2)
]

-- whose frame it is, and its seq
pub record IsAt (worker seq : ℕ) (frame : Frame) : Type 0 where
  pub worker_is : frame.worker ≡ worker
  pub seq_is : frame.seq ≡ seq

part-at : (worker number seq : ℕ) (parts : List (List Entry)) (i : ℕ) (frame : Frame)
    → slice_get (frames_from worker number seq parts) i ≡ Some frame → IsAt worker (seq + i) frame
part-at worker number seq [] i frame h = absurd (none-some frame h)
part-at worker number seq (part ∷ parts) zero frame h = record { worker_is = cc; seq_is = (let e : seq ≡ frame.seq = cc in omega arith) }
part-at worker number seq (part ∷ parts) (suc i) frame h =
    let behind = part-at worker number (seq + 1) parts i frame h in
    let at = behind.seq_is in
    record { worker_is = behind.worker_is; seq_is = omega arith }

-- what a stream begins with: the frames of a commit, where it is the worker's
abbrev front_of : Bool → ℕ → ℕ → Commit → List Frame
front_of own before first commit = cond own (frames_of commit (before + 1) first) []

stream-at : (worker before first : ℕ) (commits : List Commit) (i : ℕ) (frame : Frame)
    → slice_get (stream_from worker before first commits) i ≡ Some frame → IsAt worker (first + i) frame
stream-at worker before first [] i frame h = absurd (none-some frame h)
stream-at worker before first (commit ∷ commits) i frame h =
    by (commit.worker == worker) refl (λ seq j found. stream-at worker (before + 1) seq commits j frame found) h
  where
    by : (own : Bool) → (commit.worker == worker) ≡ own
        → ((seq j : ℕ) → slice_get (stream_from worker (before + 1) seq commits) j ≡ Some frame → IsAt worker (seq + j) frame)
        → slice_get (front_of own before first commit
        ++ stream_from worker (before + 1) (first + length (front_of own before first commit)) commits) i ≡ Some frame
        → IsAt worker (first + i) frame
    by false e rest h =
        let behind = rest (first + 0) i h in
        let at = behind.seq_is in
        record { worker_is = behind.worker_is; seq_is = omega arith }
    by true e rest h =
        let front = frames_of commit (before + 1) first in
        elim (get-behind front (stream_from worker (before + 1) (first + length front) commits) i frame h) [
          | inl here ↦
              let found = part-at commit.worker (before + 1) first (parts_of commit.entries) i frame here in
              record { worker_is = found.worker_is ∙ eqb-true commit.worker worker e; seq_is = found.seq_is }
          | inr back ↦
              let behind = rest (first + length front) back.0 back.2 in
              let at = behind.seq_is in
              let index = back.1 in
              record { worker_is = behind.worker_is; seq_is = omega arith }
        ]

-- a frame of a stream is of its worker, by its seq
pub frame-at : (commits : List Commit) (worker seq : ℕ) (frame : Frame) → slice_get (stream_of commits worker) seq ≡ Some frame
    → IsAt worker seq frame
frame-at commits worker seq frame h =
    let found = stream-at worker 0 0 commits seq frame h in
    let at = found.seq_is in
    record { worker_is = found.worker_is; seq_is = omega arith }

-- what is taken of a list behind others stands there
pub get-take : {A : Type 0} (count : ℕ) (xs : List A) (i : ℕ) (x : A) → slice_get (take count xs) i ≡ Some x → slice_get xs i ≡ Some x
get-take zero xs i x h = absurd (none-some x h)
get-take (suc count) [] i x h = h
get-take (suc count) (y ∷ xs) zero x h = h
get-take (suc count) (y ∷ xs) (suc i) x h = get-take count xs i x h

pub get-drop : {A : Type 0} (count : ℕ) (xs : List A) (i : ℕ) → slice_get (drop count xs) i ≡ slice_get xs (count + i)
get-drop zero xs i = ap (slice_get xs) (omega arith)
get-drop (suc count) [] i = refl
get-drop (suc count) (y ∷ xs) i =
    let index : suc (count + i) ≡ suc count + i = omega arith in
    get-drop count xs i ∙ ap (slice_get (y ∷ xs)) index

-- ---- counts

-- a worker that is not there has no frame
none-of : (workers worker before first : ℕ) (commits : List Commit) → AllByRecursion (IsCommit workers) commits → workers ≤ worker
    → stream_from worker before first commits ≡ []
none-of workers worker before first [] each past = refl
none-of workers worker before first (commit ∷ commits) each past =
    let below = each.0.worker in
    by (commit.worker == worker) (λ e. let same = eqb-true commit.worker worker e in absurd (omega arith))
    (none-of workers worker (before + 1) (first + 0) commits each.1 past)
  where
    by : (own : Bool) → (own ≡ true → ⊥) → stream_from worker (before + 1) (first + 0) commits ≡ []
        → (front_of own before first commit
        ++ stream_from worker (before + 1) (first + length (front_of own before first commit)) commits) ≡ []
    by true e rest = absurd (e refl)
    by false e rest = rest

pub counts-length : (commits : List Commit) (version workers : ℕ) → length (counts_of commits version workers) ≡ workers
counts-length commits version zero = refl
counts-length commits version (suc workers) =
    let before = counts-length commits version workers in
    omega (arith, length-append (counts_of commits version workers) (frame_count commits workers version ∷ []))

counts-at : (commits : List Commit) (version workers worker : ℕ) → worker < workers
    → get_or (counts_of commits version workers) worker 0 ≡ frame_count commits worker version
counts-at commits version zero worker below = absurd (omega arith)
counts-at commits version (suc workers) worker below =
    let front = counts_of commits version workers in
    let last = frame_count commits workers version in
    let size = counts-length commits version workers in
    elim (cases_lt worker workers) [
      | inl less ↦ get_or_append_left front (last ∷ []) 0 worker (omega arith) ∙ counts-at commits version workers worker less
      | inr past ↦
          let same : worker ≡ length front + 0 = omega arith in
          let is : workers ≡ worker = omega arith in
          ap (λ (i : ℕ). get_or (front ++ last ∷ []) i 0) same ∙ get_or-append-add front (last ∷ []) 0 0
          ∙ ap (λ (w : ℕ). frame_count commits w version) is
    ]

-- the counts of a Head are those of the list at its version and at its base
pub counts-are : (commits : List Commit) (version workers : ℕ) → AllByRecursion (IsCommit workers) commits
    → AreFrameCounts commits version (counts_of commits version workers)
counts-are commits version workers each worker = elim (cases_lt worker workers) [
  | inl below ↦ counts-at commits version workers worker below
  | inr past ↦
      let size = counts-length commits version workers in
      get_or_past (counts_of commits version workers) worker 0 (omega arith)
      ∙ ap length (sym (none-of workers worker 0 0 (take version commits) (All-front (IsCommit workers) version commits each) past))
]

-- and of 64 bits, as the streams are
pub counts-below : (commits : List Commit) (version workers : ℕ)
    → ((worker : ℕ) → frame_count commits worker version < 2 ^ 64)
    → AllByRecursion (λ count. count < 2 ^ 64) (counts_of commits version workers)
counts-below commits version zero below = tt
counts-below commits version (suc workers) below =
    All-append (λ count. count < 2 ^ 64) (counts_of commits version workers) (frame_count commits workers version ∷ [])
    (counts-below commits version workers below) (below workers, tt)
