-- What stays of a list of commits as others come behind: its streams, its tables, and that it is legal.
use Rattle.std.proofs.Common.{◌≡◌, ℕ, ◌+◌, ◌≤◌, true, cond, ◌==◌, List, [], ◌∷◌, ◌++◌, length}
use Rattle.std.proofs.Common.{Result, Ok, Err, refl, sym, ap, ◌∙◌, append_assoc, arith}
use Rattle.std.specs.List.{AllByRecursion}
use Rattle.std.specs.Result.{is_ok}
use Rattle.std.proofs.lemmas.List.{take-append-le, length-append}
use Rattle.rows.specs.declared.commit.Commit.{Commit}
use Rattle.rows.specs.ImageLaws.{AreSpelled}
use Rattle.rows.specs.Shape.{Shape}
use Rattle.rows.specs.Tables.{Tables, Refusal, opening, apply_entries, and_then}
use Rattle.rows.specs.Commits.{IsCommit, IsLegal, apply_commits, tables_after}
use Rattle.update_log.specs.declared.frame.Frame.{Frame}
use Rattle.update_log.specs.Frames.{frames_of}
use Rattle.update_log.specs.Streams.{stream_from, stream_of}
use Rattle.journal.specs.Recovery.{HasRecord}
use Rattle.world.proofs.Lists.{All-left}

-- ---- streams

-- the stream of a list goes on as the list does
stream-more : (worker before first : ℕ) (commits more : List Commit)
    → (rest : List Frame) × (stream_from worker before first (commits ++ more) ≡ stream_from worker before first commits ++ rest)
stream-more worker before first [] more = (stream_from worker before first more, refl)
stream-more worker before first (commit ∷ commits) more =
    let front : List Frame = cond (commit.worker == worker) (frames_of commit (before + 1) first) [] in
    let behind = stream-more worker (before + 1) (first + length front) commits more in (
      behind.0,
      ap (λ (frames : List Frame). front ++ frames) behind.1
          ∙ sym (append_assoc front (stream_from worker (before + 1) (first + length front) commits) behind.0),
    )

-- a stream is not shorter once commits have come behind
pub stream-grows : (commits more : List Commit) (worker : ℕ)
    → length (stream_of commits worker) ≤ length (stream_of (commits ++ more) worker)
stream-grows commits more worker =
    let behind = stream-more worker 0 0 commits more in
    omega (arith, ap length behind.1, length-append (stream_of commits worker) behind.0)

-- ---- entries

-- the entries of a list that a journal may be of have spellings
pub journaled-spelled : (commits : List Commit) → AllByRecursion HasRecord commits → AreSpelled commits
journaled-spelled [] records = tt
journaled-spelled (commit ∷ commits) records = (records.0.spelled, journaled-spelled commits records.1)

-- ---- tables

-- the tables at a version that is there stay when commits come behind
pub tables-stay : (shape : Shape) (commits more : List Commit) (version : ℕ) → version ≤ length commits
    → tables_after shape (commits ++ more) version ≡ tables_after shape commits version
tables-stay shape commits more version h = rw take-append-le refl

apply_commits-append : (tables : Tables) (before commits : List Commit)
    → apply_commits tables (before ++ commits) ≡ and_then (λ after. apply_commits after commits) (apply_commits tables before)
apply_commits-append tables [] commits = refl
apply_commits-append tables (commit ∷ before) commits =
    by (λ after. apply_commits-append after before commits) (apply_entries tables commit.entries)
  where
    by : ((after : Tables) → apply_commits after (before ++ commits) ≡ and_then (λ after. apply_commits after commits)
        (apply_commits after before))
        → (first : Result Tables Refusal)
        → and_then (λ after. apply_commits after (before ++ commits)) first ≡ and_then (λ after. apply_commits after commits)
        (and_then (λ after. apply_commits after before) first)
    by rest (Ok after) = rest after
    by rest (Err refusal) = refl

first-ok : (next : Tables → Result Tables Refusal) (first : Result Tables Refusal) → is_ok (and_then next first) ≡ true → is_ok first ≡ true
first-ok next (Ok after) h = refl
first-ok next (Err refusal) h = h

-- the beginning of a legal list is legal
pub legal-front : (shape : Shape) (workers : ℕ) (front back : List Commit) → IsLegal shape workers (front ++ back)
    → IsLegal shape workers front
legal-front shape workers front back legal = record {
  each = All-left (IsCommit workers) front back legal.each;
  defined = first-ok (λ after. apply_commits after back) (apply_commits (opening shape) front)
      (ap is_ok (sym (apply_commits-append (opening shape) front back)) ∙ legal.defined);
}
