-- A worker's stream: of the first commits and of those behind, and how long it can be.
use Rattle.std.proofs.Common.{◌≡◌, ◌+◌, ◌^◌, ◌<◌, ◌≤◌, ◌==◌, ℕ, suc, zero, Bool, true, false, cond, List, [], ◌∷◌, ◌++◌, length, take, drop}
use Rattle.std.proofs.Common.{get_or, slice_get, nat_le, refl, sym, ap, subst, ◌∙◌, append_assoc, append-nil, length-append, arith}
use Rattle.std.proofs.Common.{inl, inr}
use Rattle.std.specs.Cmp.Lexicographic.{pointwise}
use Rattle.std.specs.List.{flat_map, AllByRecursion}
use Rattle.std.proofs.lemmas.Bool.{eq-eqb, and_from, and_parts, le-leb, cases_eq, ne_eqb}
use Rattle.std.proofs.Math.Seq.{take-take}
use Rattle.std.proofs.lemmas.List.{take-append-drop, take_all, length_push, take_more}
use Rattle.rows.specs.declared.commit.Commit.{Commit}
use Rattle.rows.specs.declared.entry.Entry.{Entry}
use Rattle.rows.specs.declared.entry.Entry.TheVariants.{Insert, Patch, Delete, AddColumn}
use Rattle.rows.specs.Commits.{IsCommit, tables_after}
use Rattle.rows.specs.Image.{image_of}
use Rattle.rows.specs.Limits.{workers_max}
use Rattle.rows.specs.Shape.{Shape}
use Rattle.rows.specs.Spelling.{entry_spelling}
use Rattle.update_log.specs.declared.frame.Frame.{Frame}
use Rattle.update_log.specs.Frames.{IsSendable, IsCuttable, frames_from, frames_of}
use Rattle.update_log.specs.Parts.{parts_of}
use Rattle.update_log.specs.Streams.{stream_from, stream_of, frame_count}
use Rattle.primary.proofs.Cut.{some-base}
use Rattle.primary.proofs.Elements.{all-append}
use Rattle.update_log.specs.Images.{pieces_at}
use Rattle.update_log.specs.Laws.{CutIsShort, FramesAreSendable, PiecesAreSome}
use Rattle.journal.specs.Recovery.{HasRecord, IsBeginning}
use Rattle.journal.specs.Text.{record_of, records_from}
use Rattle.wire.specs.Spelling.{AreMarks}
use Rattle.primary.specs.Journaling.{AreNumbered}
use Rattle.primary.specs.Sending.{counts_of}

-- a frame for each part
pub frames-length : (worker number seq : ℕ) (parts : List (List Entry)) → length (frames_from worker number seq parts) ≡ length parts
frames-length worker number seq [] = refl
frames-length worker number seq (part ∷ parts) = ap suc (frames-length worker number (seq + 1) parts)

-- the frames of commits behind others go behind those of these
pub stream-append : (worker before first : ℕ) (front back : List Commit)
    → stream_from worker before first (front ++ back) ≡ stream_from worker before first front
    ++ stream_from worker (before + length front) (first + length (stream_from worker before first front)) back
stream-append worker before first [] back =
    let number : before ≡ before + 0 = omega arith in
    let seq : first ≡ first + 0 = omega arith in
    ap (λ n. stream_from worker n first back) number ∙ ap (λ n. stream_from worker (before + 0) n back) seq
stream-append worker before first (commit ∷ front) back =
    let own : List Frame = cond (commit.worker == worker) (frames_of commit (before + 1) first) [] in
    let rest : List Frame = stream_from worker (before + 1) (first + length own) front in
    let number : before + 1 + length front ≡ before + suc (length front) = omega arith in
    let seq : first + length own + length rest ≡ first + length (own ++ rest) = omega (arith, length-append own rest) in
    ap (λ (more : List Frame). own ++ more) (stream-append worker (before + 1) (first + length own) front back)
    ∙ sym (append_assoc own rest (stream_from worker (before + 1 + length front) (first + length own + length rest) back))
    ∙ ap (λ n. (own ++ rest) ++ stream_from worker n (first + length own + length rest) back) number
    ∙ ap (λ n. (own ++ rest) ++ stream_from worker (before + suc (length front)) n back) seq

-- the stream of the first commits begins that of all
pub stream-front : (worker version : ℕ) (commits : List Commit)
    → IsBeginning (stream_of (take version commits) worker) (stream_of commits worker)
stream-front worker version commits =
    let front : List Frame = stream_of (take version commits) worker in (
      stream_from worker (0 + length (take version commits)) (0 + length front) (drop version commits),
      ap (λ cs. stream_of cs worker) (sym (take-append-drop version commits))
          ∙ stream-append worker 0 0 (take version commits) (drop version commits),
    )

-- the frame of a seq in a list and in its beginning
pub front-get : {X : Type 0} (front all : List X) (i : ℕ) → IsBeginning front all → i < length front → slice_get all i ≡ slice_get front i
front-get [] all i begins h = absurd (omega arith)
front-get (x ∷ front) all zero begins h = ap (λ xs. slice_get xs 0) begins.1
front-get (x ∷ front) all (suc i) begins h =
    ap (λ xs. slice_get xs (suc i)) begins.1 ∙ front-get front (front ++ begins.0) i (begins.0, refl) (omega arith)

-- a worker's stream with one commit more
pub stream-ours : (commits : List Commit) (commit : Commit) (worker : ℕ) → commit.worker ≡ worker
    → length (stream_of (commits ++ commit ∷ []) worker) ≡ length (stream_of commits worker) + length (parts_of commit.entries)
stream-ours commits commit worker e =
    let mine : (commit.worker == worker) ≡ true = eq-eqb commit.worker worker e in
    let first = 0 + length (stream_of commits worker) in
    let number = 0 + length commits + 1 in
    let added : List Frame = frames_of commit number first in
    ap length
    (stream-append worker 0 0 commits (commit ∷ [])
    ∙ ap (λ b. stream_of commits worker ++ (cond b added [] ++ [])) mine)
    ∙ length-append (stream_of commits worker) (added ++ [])
    ∙ omega (arith, length-append added [], frames-length commit.worker number first (parts_of commit.entries))

pub stream-others : (commits : List Commit) (commit : Commit) (worker : ℕ) → (commit.worker == worker) ≡ false
    → length (stream_of (commits ++ commit ∷ []) worker) ≡ length (stream_of commits worker)
stream-others commits commit worker theirs =
    let first = 0 + length (stream_of commits worker) in
    let number = 0 + length commits + 1 in
    let added : List Frame = frames_of commit number first in
    ap length
    (stream-append worker 0 0 commits (commit ∷ [])
    ∙ ap (λ b. stream_of commits worker ++ (cond b added [] ++ [])) theirs
    ∙ append-nil (stream_of commits worker))

-- numbers with one commit more
pub numbered-push : (commits : List Commit) (commit : Commit) → AreNumbered commits → length commits + 1 < 2 ^ 64
    → length (stream_of commits commit.worker) + length (parts_of commit.entries) < 2 ^ 64 → AreNumbered (commits ++ commit ∷ [])
numbered-push commits commit numbered more frames = record {
  commits_below = omega (arith, length-append commits (commit ∷ []));
  frames_below = below;
}
  where
    below : (worker : ℕ) → length (stream_of (commits ++ commit ∷ []) worker) < 2 ^ 64
    below worker = elim (cases_eq commit.worker worker) [
      | inl e ↦
          let same : length (stream_of commits commit.worker) ≡ length (stream_of commits worker) =
          ap (λ w. length (stream_of commits w)) e in
          omega (arith, stream-ours commits commit worker e)
      | inr other ↦
          omega (arith, stream-others commits commit worker (ne_eqb commit.worker worker other), numbered.frames_below worker)
    ]

-- and of the first commits
pub numbered-front : (commits : List Commit) (version : ℕ) → AreNumbered commits → AreNumbered (take version commits)
numbered-front commits version numbered = record {
  commits_below = omega (
    arith,
    ap length (take-append-drop version commits),
    length-append (take version commits) (drop version commits),
    numbered.commits_below,
  );
  frames_below = λ worker.
      let begins = stream-front worker version commits in
      omega (arith, ap length begins.1, length-append (stream_of (take version commits) worker) begins.0, numbered.frames_below worker);
}

-- the next commit's frames are among those of all
pub next-below : (commits : List Commit) (i : ℕ) (commit : Commit) → i < length commits → commit ≡ get_or commits i commit
    → AreNumbered commits → length (stream_of (take i commits) commit.worker) + length (parts_of commit.entries) < 2 ^ 64
next-below commits i commit h e numbered =
    let more : take (i + 1) commits ≡ take i commits ++ commit ∷ [] =
    take_more commits i commit h ∙ ap (λ x. take i commits ++ x ∷ []) (sym e) in
    let below = (numbered-front commits (i + 1) numbered).frames_below commit.worker in
    omega (arith, stream-ours (take i commits) commit commit.worker refl, ap (λ cs. length (stream_of cs commit.worker)) more)

-- ---- frames that a datagram spells

sendable-from : (law : FramesAreSendable) (workers worker before first : ℕ) (commits : List Commit) → workers ≤ workers_max
    → AllByRecursion (IsCommit workers) commits
    → AllByRecursion HasRecord commits → before + length commits < 2 ^ 64
    → first + length (stream_from worker before first commits) < 2 ^ 64
    → AllByRecursion IsSendable (stream_from worker before first commits)
sendable-from law workers worker before first [] few each records numbers seqs = tt
sendable-from law workers worker before first (commit ∷ commits) few each records numbers seqs =
    one (commit.worker == worker)
    (λ first. sendable-from law workers worker (before + 1) first commits few each.1 records.1 (omega arith)) seqs
  where
    one : (ours : Bool)
        → ((first : ℕ) → first + length (stream_from worker (before + 1) first commits) < 2 ^ 64
        → AllByRecursion IsSendable (stream_from worker (before + 1) first commits))
        → first + length (cond ours (frames_of commit (before + 1) first) []
        ++ stream_from worker (before + 1) (first + length (cond ours (frames_of commit (before + 1) first) [])) commits) < 2 ^ 64
        → AllByRecursion IsSendable
        (cond ours (frames_of commit (before + 1) first) []
        ++ stream_from worker (before + 1) (first + length (cond ours (frames_of commit (before + 1) first) [])) commits)
    one false rest seqs = rest (first + 0) (omega arith)
    one true rest seqs =
        let own : List Frame = frames_of commit (before + 1) first in
        let behind : List Frame = stream_from worker (before + 1) (first + length own) commits in
        let joined = length-append own behind in
        let parts = frames-length commit.worker (before + 1) first (parts_of commit.entries) in
        let cuttable : IsCuttable commit (before + 1) first = record {
          worker_below = omega (arith, each.0.worker);
          numbered = omega arith;
          spelled = records.0.spelled;
          seqs_below = omega arith;
        } in
        all-append IsSendable own behind
        (law commit (before + 1) first cuttable (omega arith))
        (rest (first + length own) (omega arith))

pub stream-sendable : (law : FramesAreSendable) (workers : ℕ) (commits : List Commit) (worker : ℕ) → workers ≤ workers_max
    → AllByRecursion (IsCommit workers) commits → AllByRecursion HasRecord commits → AreNumbered commits
    → AllByRecursion IsSendable (stream_of commits worker)
stream-sendable law workers commits worker few each records numbered =
    sendable-from law workers worker 0 0 commits few each records (omega (arith, numbered.commits_below))
    (omega (arith, numbered.frames_below worker))

-- ---- how long the streams of a text can be

some-bytes : (entry : Entry) → 0 < length (entry_spelling entry)
some-bytes (Insert table row bytes) = omega arith
some-bytes (Patch table row offset bytes) = omega arith
some-bytes (Delete table row) = omega arith
some-bytes (AddColumn table default) = omega arith

entries-short : (entries : List Entry) → length entries ≤ length (flat_map entry_spelling entries)
entries-short [] = omega arith
entries-short (entry ∷ entries) =
    omega (
      arith,
      some-bytes entry,
      entries-short entries,
      length-append (entry_spelling entry) (flat_map entry_spelling entries),
    )

record-long : (law : CutIsShort) (number : ℕ) (commit : Commit) → 0 < length (record_of number commit)
    × (length (parts_of commit.entries) ≤ length (record_of number commit))
record-long law number commit =
    (omega arith, omega (arith, law commit.entries, entries-short commit.entries))

stream-short : (law : CutIsShort) (worker before first : ℕ) (commits : List Commit)
    → length (stream_from worker before first commits) ≤ length (records_from before commits)
stream-short law worker before first [] = omega arith
stream-short law worker before first (commit ∷ commits) =
    one (commit.worker == worker) (λ first. stream-short law worker (before + 1) first commits)
  where
    one : (ours : Bool)
        → ((first : ℕ) → length (stream_from worker (before + 1) first commits) ≤ length (records_from (before + 1) commits))
        → length (cond ours (frames_of commit (before + 1) first) []
        ++ stream_from worker (before + 1) (first + length (cond ours (frames_of commit (before + 1) first) [])) commits)
        ≤ length (record_of (before + 1) commit ++ records_from (before + 1) commits)
    one false rest =
        omega (arith, rest (first + 0), length-append (record_of (before + 1) commit) (records_from (before + 1) commits))
    one true rest =
        let own : List Frame = frames_of commit (before + 1) first in
        omega (
          arith,
          rest (first + length own),
          length-append own (stream_from worker (before + 1) (first + length own) commits),
          frames-length commit.worker (before + 1) first (parts_of commit.entries),
          (record-long law (before + 1) commit).1,
          length-append (record_of (before + 1) commit) (records_from (before + 1) commits),
        )

commits-short : (law : CutIsShort) (before : ℕ) (commits : List Commit) → length commits ≤ length (records_from before commits)
commits-short law before [] = omega arith
commits-short law before (commit ∷ commits) =
    omega (
      arith,
      commits-short law (before + 1) commits,
      (record-long law (before + 1) commit).0,
      length-append (record_of (before + 1) commit) (records_from (before + 1) commits),
    )

-- commits whose records are within 64 bits are numbered within 64 bits
pub numbered-short : (law : CutIsShort) (commits : List Commit) → length (records_from 0 commits) < 2 ^ 64 → AreNumbered commits
numbered-short law commits h = record {
  commits_below = omega (arith, commits-short law 0 commits);
  frames_below = λ worker. omega (arith, stream-short law worker 0 0 commits);
}

-- ---- the counts of a Head

-- what holds of each element and of one more
all_push : (P : ℕ → Type 0) (xs : List ℕ) (x : ℕ) → AllByRecursion P xs → P x → AllByRecursion P (xs ++ x ∷ [])
all_push P [] x h p = (p, tt)
all_push P (first ∷ xs) x h p = (h.0, all_push P xs x h.1 p)

counts_below : (commits : List Commit) (version workers : ℕ) → AreNumbered commits
    → AllByRecursion (λ count. count < 2 ^ 64) (counts_of commits version workers)
counts_below commits version zero numbered = tt
counts_below commits version (suc workers) numbered =
    all_push (λ count. count < 2 ^ 64) (counts_of commits version workers) (frame_count commits workers version)
    (counts_below commits version workers numbered) ((numbered-front commits version numbered).frames_below workers)

pub length_counts : (commits : List Commit) (version workers : ℕ) → length (counts_of commits version workers) ≡ workers
length_counts commits version zero = refl
length_counts commits version (suc workers) =
    omega (
      arith,
      length_counts commits version workers,
      length_push (counts_of commits version workers) (frame_count commits workers version),
    )

-- no more frames at a base than at a version behind it
counts-rise : (commits : List Commit) (worker base version : ℕ) → base ≤ version
    → frame_count commits worker base ≤ frame_count commits worker version
counts-rise commits worker base version h =
    let begins = stream-front worker base (take version commits) in
    omega (
      arith,
      ap (λ cs. length (stream_of cs worker)) (take-take base version commits h),
      ap length begins.1,
      length-append (stream_of (take base (take version commits)) worker) begins.0,
    )

within-push : (xs ys : List ℕ) (x y : ℕ) → pointwise nat_le xs ys ≡ true → x ≤ y → pointwise nat_le (xs ++ x ∷ []) (ys ++ y ∷ []) ≡ true
within-push [] [] x y all last = and_from (nat_le x y) true (le-leb x y last) refl
within-push [] (b ∷ ys) x y all last = absurd cc
within-push (a ∷ xs) [] x y all last = absurd cc
within-push (a ∷ xs) (b ∷ ys) x y all last =
    let parts = and_parts (nat_le a b) (pointwise nat_le xs ys) all in
    and_from (nat_le a b) (pointwise nat_le (xs ++ x ∷ []) (ys ++ y ∷ [])) parts.0 (within-push xs ys x y parts.1 last)

counts-within : (commits : List Commit) (base version workers : ℕ) → base ≤ version
    → pointwise nat_le (counts_of commits base workers) (counts_of commits version workers) ≡ true
counts-within commits base version zero h = refl
counts-within commits base version (suc workers) h =
    within-push (counts_of commits base workers) (counts_of commits version workers) (frame_count commits workers base)
    (frame_count commits workers version) (counts-within commits base version workers h) (counts-rise commits workers base version h)

-- none at the opening
zeros-counted : (commits : List Commit) (workers : ℕ) → AllByRecursion (λ (low : ℕ). low ≡ 0) (counts_of commits 0 workers)
zeros-counted commits zero = tt
zeros-counted commits (suc workers) =
    all_push (λ (low : ℕ). low ≡ 0) (counts_of commits 0 workers) 0 (zeros-counted commits workers) refl

-- there are pieces where there is a base
none-counted : (some : PiecesAreSome) (shape : Shape) (commits : List Commit) (base : ℕ) → length (pieces_at shape commits base) ≡ 0
    → base ≡ 0
none-counted some shape commits zero none = refl
none-counted some shape commits (suc base) none =
    absurd (omega (
      arith,
      none,
      ap length (some-base shape commits (suc base) (omega arith)),
      some (image_of shape (tables_after shape commits (suc base))),
    ))

-- the counts of 1 to 16 workers at a base and at a version are those of a Head
pub marks_for_head : (some : PiecesAreSome) (shape : Shape) (commits : List Commit) (base version workers pieces : ℕ) → version < 2 ^ 64
    → base ≤ version → pieces < 2 ^ 64 → pieces ≡ length (pieces_at shape commits base)
    → AreNumbered commits → 0 < workers → workers ≤ 16
    → AreMarks version base pieces (counts_of commits base workers) (counts_of commits version workers)
marks_for_head some shape commits base version workers pieces below within pieces_below many numbered some_workers few = record {
  version_below = below;
  pieces_below = pieces_below;
  counted = record {
    some = omega (arith, length_counts commits version workers);
    few = omega (arith, length_counts commits version workers);
    below = counts_below commits version workers numbered;
  };
  base_within = within;
  lows_within = counts-within commits base version workers within;
  none = (
    λ (e : base ≡ 0). many ∙ ap (λ b. length (pieces_at shape commits b)) e,
    λ (e : pieces ≡ 0). none-counted some shape commits base (sym many ∙ e),
  );
  opening = λ (e : base ≡ 0).
      subst (λ b. AllByRecursion (λ (low : ℕ). low ≡ 0) (counts_of commits b workers)) (sym e) (zeros-counted commits workers);
}

-- the counts at a base that is within what is durable
pub counts-at_base : (commits : List Commit) (base durable workers : ℕ) → base ≤ durable
    → counts_of (take durable commits) base workers ≡ counts_of commits base workers
counts-at_base commits base durable zero h = refl
counts-at_base commits base durable (suc workers) h =
    ap (λ counts. counts ++ frame_count (take durable commits) workers base ∷ []) (counts-at_base commits base durable workers h)
    ∙ ap (λ cs. counts_of commits base workers ++ length (stream_of cs workers) ∷ []) (take-take base durable commits h)

-- the counts of the durable list are those at its length
pub counts-durable : (commits : List Commit) (durable workers : ℕ) → durable ≤ length commits
    → counts_of (take durable commits) (length (take durable commits)) workers ≡ counts_of commits durable workers
counts-durable commits durable zero h = refl
counts-durable commits durable (suc workers) h =
    let all : take (length (take durable commits)) (take durable commits) ≡ take durable commits =
    take_all (length (take durable commits)) (take durable commits) (omega arith) in
    ap (λ counts. counts ++ frame_count (take durable commits) workers (length (take durable commits)) ∷ [])
    (counts-durable commits durable workers h)
    ∙ ap (λ cs. counts_of commits durable workers ++ length (stream_of cs workers) ∷ []) all
