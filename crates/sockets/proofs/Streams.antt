-- Each frame of a stream is of its worker, by its seq; and the counts of a Head.
use Rattle.std.proofs.Common.{◌≡◌, ℕ, zero, suc, ◌+◌, ◌^◌, ◌<◌, ◌≤◌, Bool, true, false, cond, ◌==◌, List, [], ◌∷◌, ◌++◌, length, take}
use Rattle.std.proofs.Common.{Some, get_or, nat_le, refl, sym, ap, subst, ◌∙◌, ◌⊎◌, inl, inr, arith}
use Rattle.std.specs.Cmp.Lexicographic.{pointwise}
use Rattle.std.specs.List.{slice_get, AllByRecursion}
use Rattle.std.proofs.lemmas.Bool.{cases_lt, eqb-true, and_from, and_parts, le-leb}
use Rattle.std.proofs.lemmas.List.{get_or_append_left, get_or_past, get_or-append-add, length-append, take-take}
use Rattle.std.proofs.lemmas.Option.{none-some}
use Rattle.rows.specs.declared.commit.Commit.{Commit}
use Rattle.rows.specs.declared.entry.Entry.{Entry}
use Rattle.rows.specs.Commits.{IsCommit, tables_after}
use Rattle.rows.specs.Image.{image_of}
use Rattle.rows.specs.Shape.{Shape}
use Rattle.update_log.specs.declared.frame.Frame.{Frame}
use Rattle.update_log.specs.Frames.{frames_from, frames_of}
use Rattle.update_log.specs.Images.{pieces_at}
use Rattle.update_log.specs.Parts.{parts_of, pieces_of, piece_front_len, cut_from, fits_in}
use Rattle.update_log.specs.Streams.{stream_from, stream_of, frame_count}
use Rattle.ordering.specs.Cutting.{AreFrameCounts}
use Rattle.primary.specs.Sending.{counts_of, pieces_from, pieces_of_base}
use Rattle.wire.specs.Spelling.{AreMarks}

pub all-get : {A : Type 0} (P : A → Type 0) (list : List A) → AllByRecursion P list → (i : ℕ) (x : A) → slice_get list i ≡ Some x → P x
all-get P [] all i x h = absurd (none-some x h)
all-get P (first ∷ list) all zero x h = let same : first ≡ x = cc in subst P same all.0
all-get P (first ∷ list) all (suc i) x h = all-get P list all.1 i x h

-- ---- frames

-- what stands at an index of two lists joined, by how far it is behind the first
get-behind : {A : Type 0} (xs ys : List A) (i : ℕ) (x : A) → slice_get (xs ++ ys) i ≡ Some x → (slice_get xs i ≡ Some x)
    ⊎ ((j : ℕ) × (i ≡ length xs + j) × (slice_get ys j ≡ Some x))
get-behind [] ys i x h = inr (i, omega arith, h)
get-behind (y ∷ xs) ys zero x h = inl h
get-behind (y ∷ xs) ys (suc i) x h = elim (get-behind xs ys i x h) [
  | inl front ↦ inl front
  | inr back ↦ inr (back.0, (let index = back.1 in omega arith), back.2)
]

-- whose frame it is, and its seq
pub record IsAt (worker seq : ℕ) (frame : Frame) : Type 0 where
  pub worker_is : frame.worker ≡ worker
  pub seq_is : frame.seq ≡ seq

part-at : (worker number seq : ℕ) (parts : List (List Entry)) (i : ℕ) (frame : Frame)
    → slice_get (frames_from worker number seq parts) i ≡ Some frame → IsAt worker (seq + i) frame
part-at worker number seq [] i frame h = absurd (none-some frame h)
part-at worker number seq (part ∷ parts) zero frame h = record { worker_is = cc; seq_is = (let e : seq ≡ frame.seq = cc in omega arith) }
part-at worker number seq (part ∷ parts) (suc i) frame h =
    let behind = part-at worker number (seq + 1) parts i frame h in
    let at = behind.seq_is in
    record { worker_is = behind.worker_is; seq_is = omega arith }

-- what a stream begins with: the frames of a commit, if it is the worker's
abbrev front_of : Bool → ℕ → ℕ → Commit → List Frame
front_of own before first commit = cond own (frames_of commit (before + 1) first) []

stream-at : (worker before first : ℕ) (commits : List Commit) (i : ℕ) (frame : Frame)
    → slice_get (stream_from worker before first commits) i ≡ Some frame → IsAt worker (first + i) frame
stream-at worker before first [] i frame h = absurd (none-some frame h)
stream-at worker before first (commit ∷ commits) i frame h =
    by (commit.worker == worker) refl (λ seq j found. stream-at worker (before + 1) seq commits j frame found) h
  where
    by : (own : Bool) → (commit.worker == worker) ≡ own
        → ((seq j : ℕ) → slice_get (stream_from worker (before + 1) seq commits) j ≡ Some frame → IsAt worker (seq + j) frame)
        → slice_get (front_of own before first commit
        ++ stream_from worker (before + 1) (first + length (front_of own before first commit)) commits) i ≡ Some frame
        → IsAt worker (first + i) frame
    by false e rest h =
        let behind = rest (first + 0) i h in
        let at = behind.seq_is in
        record { worker_is = behind.worker_is; seq_is = omega arith }
    by true e rest h =
        let front = frames_of commit (before + 1) first in
        elim (get-behind front (stream_from worker (before + 1) (first + length front) commits) i frame h) [
          | inl here ↦
              let found = part-at commit.worker (before + 1) first (parts_of commit.entries) i frame here in
              record { worker_is = found.worker_is ∙ eqb-true commit.worker worker e; seq_is = found.seq_is }
          | inr back ↦
              let behind = rest (first + length front) back.0 back.2 in
              let at = behind.seq_is in
              let index = back.1 in
              record { worker_is = behind.worker_is; seq_is = omega arith }
        ]

pub frame-at : (commits : List Commit) (worker seq : ℕ) (frame : Frame) → slice_get (stream_of commits worker) seq ≡ Some frame
    → IsAt worker seq frame
frame-at commits worker seq frame h =
    let found = stream-at worker 0 0 commits seq frame h in
    let at = found.seq_is in
    record { worker_is = found.worker_is; seq_is = omega arith }

-- ---- counts

-- a worker that is not there has no frame
none-of : (workers worker before first : ℕ) (commits : List Commit) → AllByRecursion (IsCommit workers) commits → workers ≤ worker
    → stream_from worker before first commits ≡ []
none-of workers worker before first [] each past = refl
none-of workers worker before first (commit ∷ commits) each past =
    let below = each.0.worker in
    by (commit.worker == worker) (λ e. let same = eqb-true commit.worker worker e in absurd (omega arith))
    (none-of workers worker (before + 1) (first + 0) commits each.1 past)
  where
    by : (own : Bool) → (own ≡ true → ⊥) → stream_from worker (before + 1) (first + 0) commits ≡ []
        → (front_of own before first commit
        ++ stream_from worker (before + 1) (first + length (front_of own before first commit)) commits) ≡ []
    by true e rest = absurd (e refl)
    by false e rest = rest

take-all : (P : Commit → Type 0) (count : ℕ) (commits : List Commit) → AllByRecursion P commits → AllByRecursion P (take count commits)
take-all P zero commits all = tt
take-all P (suc count) [] all = tt
take-all P (suc count) (commit ∷ commits) all = (all.0, take-all P count commits all.1)

pub counts-length : (commits : List Commit) (version workers : ℕ) → length (counts_of commits version workers) ≡ workers
counts-length commits version zero = refl
counts-length commits version (suc workers) =
    let before = counts-length commits version workers in
    omega (arith, length-append (counts_of commits version workers) (frame_count commits workers version ∷ []))

counts-at : (commits : List Commit) (version workers worker : ℕ) → worker < workers
    → get_or (counts_of commits version workers) worker 0 ≡ frame_count commits worker version
counts-at commits version zero worker below = absurd (omega arith)
counts-at commits version (suc workers) worker below =
    let front = counts_of commits version workers in
    let last = frame_count commits workers version in
    let size = counts-length commits version workers in
    elim (cases_lt worker workers) [
      | inl less ↦ get_or_append_left front (last ∷ []) 0 worker (omega arith) ∙ counts-at commits version workers worker less
      | inr past ↦
          let same : worker ≡ length front + 0 = omega arith in
          let is : workers ≡ worker = omega arith in
          ap (λ (i : ℕ). get_or (front ++ last ∷ []) i 0) same ∙ get_or-append-add front (last ∷ []) 0 0
          ∙ ap (λ (w : ℕ). frame_count commits w version) is
    ]

-- the counts of a Head are those of the list at its version
pub counts-are : (commits : List Commit) (version workers : ℕ) → AllByRecursion (IsCommit workers) commits
    → AreFrameCounts commits version (counts_of commits version workers)
counts-are commits version workers each worker = elim (cases_lt worker workers) [
  | inl below ↦ counts-at commits version workers worker below
  | inr past ↦
      let size = counts-length commits version workers in
      get_or_past (counts_of commits version workers) worker 0 (omega arith)
      ∙ ap length (sym (none-of workers worker 0 0 (take version commits) (take-all (IsCommit workers) version commits each) past))
]

all-append : {A : Type 0} (P : A → Type 0) (one other : List A) → AllByRecursion P one → AllByRecursion P other
    → AllByRecursion P (one ++ other)
all-append P [] other all more = more
all-append P (first ∷ one) other all more = (all.0, all-append P one other all.1 more)

-- the frames up to a version are no more than those of the list
stream-front : (worker before first : ℕ) (version : ℕ) (commits : List Commit)
    → length (stream_from worker before first (take version commits)) ≤ length (stream_from worker before first commits)
stream-front worker before first zero commits = omega arith
stream-front worker before first (suc version) [] = omega arith
stream-front worker before first (suc version) (commit ∷ commits) =
    let front = front_of (commit.worker == worker) before first commit in
    let rest = stream-front worker (before + 1) (first + length front) version commits in
    omega (
      arith,
      rest,
      length-append front (stream_from worker (before + 1) (first + length front) (take version commits)),
      length-append front (stream_from worker (before + 1) (first + length front) commits),
    )

pub counts-below : (commits : List Commit) (version worker : ℕ) → frame_count commits worker version ≤ length (stream_of commits worker)
counts-below commits version worker = stream-front worker 0 0 version commits

-- nor are those up to a base more than those up to a version behind it
counts-rise : (commits : List Commit) (base version worker : ℕ) → base ≤ version
    → frame_count commits worker base ≤ frame_count commits worker version
counts-rise commits base version worker le =
    let same : length (stream_of (take base (take version commits)) worker) ≡ frame_count commits worker base =
    ap (λ (l : List Commit). length (stream_of l worker)) (take-take base version commits le) in
    omega (arith, same, stream-front worker 0 0 base (take version commits))

pointwise-snoc : (xs ys : List ℕ) (x y : ℕ) → length xs ≡ length ys → pointwise nat_le xs ys ≡ true → x ≤ y
    → pointwise nat_le (xs ++ x ∷ []) (ys ++ y ∷ []) ≡ true
pointwise-snoc [] [] x y same within le = and_from (nat_le x y) true (le-leb x y le) refl
pointwise-snoc [] (b ∷ ys) x y same within le = absurd (omega (arith, same))
pointwise-snoc (a ∷ xs) [] x y same within le = absurd (omega (arith, same))
pointwise-snoc (a ∷ xs) (b ∷ ys) x y same within le =
    let both = and_parts (nat_le a b) (pointwise nat_le xs ys) within in
    and_from (nat_le a b) (pointwise nat_le (xs ++ x ∷ []) (ys ++ y ∷ [])) both.0 (pointwise-snoc xs ys x y (omega (arith, same)) both.1 le)

-- no base count is above its worker's count
lows-within : (commits : List Commit) (base version workers : ℕ) → base ≤ version
    → pointwise nat_le (counts_of commits base workers) (counts_of commits version workers) ≡ true
lows-within commits base version zero le = refl
lows-within commits base version (suc workers) le =
    pointwise-snoc (counts_of commits base workers) (counts_of commits version workers) (frame_count commits workers base)
    (frame_count commits workers version) (counts-length commits base workers ∙ sym (counts-length commits version workers))
    (lows-within commits base version workers le) (counts-rise commits base version workers le)

-- without a base they are 0
lows-none : (commits : List Commit) (workers : ℕ) → AllByRecursion (λ low. low ≡ 0) (counts_of commits 0 workers)
lows-none commits zero = tt
lows-none commits (suc workers) =
    all-append (λ low. low ≡ 0) (counts_of commits 0 workers) (frame_count commits workers 0 ∷ []) (lows-none commits workers) (refl, tt)

-- ---- pieces

-- entries that are cut have a part
cut-some : (front : ℕ) (part entries : List Entry) → 0 < length (cut_from front part entries)
cut-some front part [] = omega arith
cut-some front part (entry ∷ entries) = by (fits_in front part entry) (cut-some front (part ++ entry ∷ []) entries)
  where
    by : (fits : Bool) → 0 < length (cut_from front (part ++ entry ∷ []) entries)
        → 0 < length (cond fits [] (part ∷ []) ++ cut_from front (cond fits (part ++ entry ∷ []) (entry ∷ [])) entries)
    by true some = some
    by false some = omega arith

-- there are pieces exactly if there is a base
pieces-none : (shape : Shape) (commits : List Commit) (base : ℕ) → length (pieces_at shape commits base) ≡ 0 → base ≡ 0
pieces-none shape commits base none = by (base == 0) refl none
  where
    some : (entries : List Entry) → 0 < length (pieces_of entries)
    some [] = omega arith
    some (entry ∷ entries) = cut-some piece_front_len (entry ∷ []) entries

    by : (test : Bool) → (base == 0) ≡ test
        → length (cond test [] (pieces_of (image_of shape (tables_after shape commits base)))) ≡ 0 → base ≡ 0
    by true is none = eqb-true base 0 is
    by false is none = absurd (omega (arith, none, some (image_of shape (tables_after shape commits base))))

-- there are as many Pieces as pieces
pub pieces-many : (base number : ℕ) (pieces : List (List Entry)) → length (pieces_from base number pieces) ≡ length pieces
pieces-many base number [] = refl
pieces-many base number (piece ∷ pieces) = ap suc (pieces-many base (number + 1) pieces)

-- ---- Heads

-- the numbers of a Head can be spelled
pub marks-spelled : (shape : Shape) (commits : List Commit) (base version workers : ℕ) → 0 < workers → workers ≤ 16 → base ≤ version
    → version < 2 ^ 64 → ((worker : ℕ) → frame_count commits worker version < 2 ^ 64) → length (pieces_of_base shape commits base) < 2 ^ 64
    → AreMarks version base (length (pieces_at shape commits base)) (counts_of commits base workers) (counts_of commits version workers)
marks-spelled shape commits base version workers some few within numbered below cut =
    let size = counts-length commits version workers in
    record {
      version_below = numbered;
      pieces_below = omega (arith, cut, pieces-many base 0 (pieces_at shape commits base));
      counted = record { some = omega arith; few = omega arith; below = all workers };
      base_within = within;
      lows_within = lows-within commits base version workers within;
      none = (λ is. ap (λ (n : ℕ). length (pieces_at shape commits n)) is, pieces-none shape commits base);
      opening = λ is.
          subst (λ (n : ℕ). AllByRecursion (λ low. low ≡ 0) (counts_of commits n workers)) (sym is) (lows-none commits workers);
    }
  where
    all : (workers : ℕ) → AllByRecursion (λ count. count < 2 ^ 64) (counts_of commits version workers)
    all zero = tt
    all (suc workers) =
        all-append (λ count. count < 2 ^ 64) (counts_of commits version workers) (frame_count commits workers version ∷ []) (all workers)
        (below workers, tt)
