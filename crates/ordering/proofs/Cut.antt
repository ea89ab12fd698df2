-- The frames that were cut from commits hold these commits.
use Rattle.std.proofs.Common.{◌≡◌, ℕ, zero, suc, ◌+◌, ◌-◌, ◌≤◌, ◌==◌, Bool, true, false, cond, List, [], ◌∷◌, ◌++◌, length, take, drop}
use Rattle.std.proofs.Common.{refl, sym, ap, subst, ◌∙◌, append_assoc, length-append, arith}
use Rattle.std.specs.List.{flat_map, AllByRecursion}
use Rattle.std.proofs.lemmas.List.{drop-take, drop_at, length-drop, length-take-le, take-take, take_at}
use Rattle.rows.specs.declared.commit.Commit.{Commit}
use Rattle.rows.specs.declared.entry.Entry.{Entry}
use Rattle.rows.specs.Commits.{IsCommit}
use Rattle.update_log.specs.declared.frame.Frame.{Frame}
use Rattle.update_log.specs.Parts.{joined, has_room, parts_from, parts_of}
use Rattle.update_log.specs.Frames.{frames_from, frames_of}
use Rattle.update_log.specs.Streams.{frame_count, stream_from, stream_of}
use Rattle.ordering.specs.Merging.{AreMarked, HoldCommit, HoldCommits, HoldIfOwn, IsMerge}
use Rattle.ordering.specs.Cutting.{commits_between, frames_cut}

-- ---- the frames of one commit

cut-numbered : (worker number seq : ℕ) (parts : List (List Entry))
    → AllByRecursion (λ frame. frame.commit ≡ number) (frames_from worker number seq parts)
cut-numbered worker number seq [] = tt
cut-numbered worker number seq (part ∷ parts) = (refl, cut-numbered worker number (seq + 1) parts)

cut-length : (worker number seq : ℕ) (parts : List (List Entry)) → length (frames_from worker number seq parts) ≡ length parts
cut-length worker number seq [] = refl
cut-length worker number seq (part ∷ parts) = ap (λ (n : ℕ). suc n) (cut-length worker number (seq + 1) parts)

cut-marked : (worker number seq : ℕ) (parts : List (List Entry)) → AreMarked (frames_from worker number seq parts)
cut-marked worker number seq [] = tt
cut-marked worker number seq (part ∷ parts) =
    (ap (λ (n : ℕ). n == 0) (sym (cut-length worker number (seq + 1) parts)), cut-marked worker number (seq + 1) parts)

cut-entries : (worker number seq : ℕ) (parts : List (List Entry))
    → flat_map (λ frame. frame.entries) (frames_from worker number seq parts) ≡ joined parts
cut-entries worker number seq [] = refl
cut-entries worker number seq (part ∷ parts) = ap (λ (es : List Entry). part ++ es) (cut-entries worker number (seq + 1) parts)

joined-from : (rest part : List Entry) → joined (parts_from part rest) ≡ part ++ rest
joined-from [] part = refl
joined-from (entry ∷ rest) part = one (has_room part entry) (joined-from rest)
  where
    one : (b : Bool) → ((p : List Entry) → joined (parts_from p rest) ≡ p ++ rest)
        → joined (cond b [] (part ∷ []) ++ parts_from (cond b (part ++ entry ∷ []) (entry ∷ [])) rest) ≡ part ++ entry ∷ rest
    one true h = h (part ++ entry ∷ []) ∙ append_assoc part (entry ∷ []) rest
    one false h = ap (λ (more : List Entry). part ++ more) (h (entry ∷ []))

parts-join : (entries : List Entry) → joined (parts_of entries) ≡ entries
parts-join [] = refl
parts-join (entry ∷ entries) = joined-from entries (entry ∷ [])

cut-holds : (workers : ℕ) (commit : Commit) (number seq : ℕ) → IsCommit workers commit
    → HoldCommit number commit.entries (frames_of commit number seq)
cut-holds workers commit number seq is = record {
  numbered = cut-numbered commit.worker number seq (parts_of commit.entries);
  marked = cut-marked commit.worker number seq (parts_of commit.entries);
  joined = cut-entries commit.worker number seq (parts_of commit.entries) ∙ parts-join commit.entries;
  some = is.some;
  few = is.few;
}

-- ---- the frames of many

own-there : (number : ℕ) (entries : List Entry) (frames : List Frame) (ours : Bool) → HoldCommit number entries frames
    → HoldIfOwn ours number entries (cond ours frames [])
own-there number entries frames true holds = holds
own-there number entries frames false holds = refl

stream-holds : (workers worker before first : ℕ) (commits : List Commit) → AllByRecursion (IsCommit workers) commits
    → HoldCommits worker before commits (stream_from worker before first commits)
stream-holds workers worker before first [] each = refl
stream-holds workers worker before first (commit ∷ commits) each =
    let ours : Bool = commit.worker == worker in
    let frames : List Frame = frames_of commit (before + 1) first in
    let own : List Frame = cond ours frames [] in (
      own,
      stream_from worker (before + 1) (first + length own) commits,
      refl,
      own-there (before + 1) commit.entries frames ours (cut-holds workers commit (before + 1) first each.0),
      stream-holds workers worker (before + 1) (first + length own) commits each.1,
    )

-- ---- those between two versions

all-take : (workers n : ℕ) (commits : List Commit) → AllByRecursion (IsCommit workers) commits
    → AllByRecursion (IsCommit workers) (take n commits)
all-take workers zero commits each = tt
all-take workers (suc n) [] each = tt
all-take workers (suc n) (commit ∷ commits) each = (each.0, all-take workers n commits each.1)

all-drop : (workers n : ℕ) (commits : List Commit) → AllByRecursion (IsCommit workers) commits
    → AllByRecursion (IsCommit workers) (drop n commits)
all-drop workers zero commits each = each
all-drop workers (suc n) [] each = tt
all-drop workers (suc n) (commit ∷ commits) each = all-drop workers n commits each.1

-- a piece in the middle of a list
middle : (whole front piece back : List Frame) (low high : ℕ) → whole ≡ (front ++ piece) ++ back → length front ≡ low
    → length (front ++ piece) ≡ high → take (high - low) (drop low whole) ≡ piece
middle whole front piece back low high is low_is high_is =
    let count : high - low ≡ length piece = omega (arith, length-append front piece) in
    ap (λ (fs : List Frame). take (high - low) (drop low fs)) (is ∙ append_assoc front piece back)
    ∙ ap (take (high - low)) (drop_at front (piece ++ back) low low_is)
    ∙ take_at piece back (high - low) (sym count)

-- the stream of the first commits, and that of the others behind it
stream-split : (worker before first v : ℕ) (commits : List Commit)
    → stream_from worker before first commits ≡ stream_from worker before first (take v commits)
    ++ stream_from worker (before + v) (first + length (stream_from worker before first (take v commits))) (drop v commits)
stream-split worker before first zero commits =
    let none : before ≡ before + 0 = omega arith in
    let seq : first ≡ first + 0 = omega arith in
    ap (λ (n : ℕ). stream_from worker n first commits) none ∙ ap (λ (n : ℕ). stream_from worker (before + 0) n commits) seq
stream-split worker before first (suc v) [] = refl
stream-split worker before first (suc v) (commit ∷ commits) =
    one (commit.worker == worker) (λ next. stream-split worker (before + 1) next v commits)
  where
    later : before + 1 + v ≡ before + suc v
    later = omega arith

    one : (ours : Bool)
        → ((next : ℕ) → stream_from worker (before + 1) next commits ≡ stream_from worker (before + 1) next (take v commits)
        ++ stream_from worker (before + 1 + v) (next + length (stream_from worker (before + 1) next (take v commits))) (drop v commits))
        → cond ours (frames_of commit (before + 1) first) []
        ++ stream_from worker (before + 1) (first + length (cond ours (frames_of commit (before + 1) first) [])) commits
        ≡ (cond ours (frames_of commit (before + 1) first) []
        ++ stream_from worker (before + 1) (first + length (cond ours (frames_of commit (before + 1) first) [])) (take v commits))
        ++ stream_from worker (before + suc v) (first + length (cond ours (frames_of commit (before + 1) first) []
        ++ stream_from worker (before + 1) (first + length (cond ours (frames_of commit (before + 1) first) [])) (take v commits)))
        (drop v commits)
    one ours rest =
        let frames : List Frame = cond ours (frames_of commit (before + 1) first) [] in
        let next = first + length frames in
        let front = stream_from worker (before + 1) next (take v commits) in
        let seq : next + length front ≡ first + length (frames ++ front) = omega (arith, length-append frames front) in
        ap (λ (more : List Frame). frames ++ more) (rest next)
        ∙ sym (append_assoc frames front (stream_from worker (before + 1 + v) (next + length front) (drop v commits)))
        ∙ ap (λ (n : ℕ). (frames ++ front) ++ stream_from worker n (next + length front) (drop v commits)) later
        ∙ ap (λ (n : ℕ). (frames ++ front) ++ stream_from worker (before + suc v) n (drop v commits)) seq

-- a worker's frames of the commits between two versions, as they were cut
between : (commits : List Commit) (from to worker : ℕ) → from ≤ to
    → frames_cut commits from to worker
    ≡ stream_from worker from (frame_count commits worker from) (commits_between commits from to)
between commits from to worker upto =
    let front = stream_of (take from commits) worker in
    let piece = stream_from worker (0 + from) (0 + length front) (commits_between commits from to) in
    let back = stream_from worker (0 + to) (0 + length (stream_of (take to commits) worker)) (drop to commits) in
    let count : to ≡ from + (to - from) = omega arith in
    let first : take from (take to commits) ≡ take from commits = take-take from to commits upto in
    let second : drop from (take to commits) ≡ commits_between commits from to =
    ap (λ (n : ℕ). drop from (take n commits)) count ∙ drop-take from (to - from) commits in
    let both : stream_of (take to commits) worker ≡ front ++ piece =
    stream-split worker 0 0 from (take to commits)
    ∙ ap (λ (cs : List Commit). stream_of cs worker
    ++ stream_from worker (0 + from) (0 + length (stream_of cs worker)) (drop from (take to commits))) first
    ∙ ap (λ (cs : List Commit). front ++ stream_from worker (0 + from) (0 + length front) cs) second in
    let whole : stream_of commits worker ≡ (front ++ piece) ++ back =
    stream-split worker 0 0 to commits ∙ ap (λ (fs : List Frame). fs ++ back) both in
    let before : 0 + from ≡ from = omega arith in
    let seq : 0 + length front ≡ length front = omega arith in
    middle (stream_of commits worker) front piece back (frame_count commits worker from) (frame_count commits worker to) whole refl
    (ap length (sym both))
    ∙ ap (λ (n : ℕ). stream_from worker n (0 + length front) (commits_between commits from to)) before
    ∙ ap (λ (n : ℕ). stream_from worker from n (commits_between commits from to)) seq

pub cut-merges : (workers : ℕ) (commits : List Commit) (from to : ℕ) → AllByRecursion (IsCommit workers) commits → from ≤ to
    → to ≤ length commits → IsMerge (frames_cut commits from to) from to (commits_between commits from to)
cut-merges workers commits from to each upto there = record {
  counted =
      let left : to - from ≤ length (drop from commits) = omega (arith, length-drop from commits) in
      omega (arith, length-take-le (to - from) (drop from commits) left);
  held = λ worker.
      subst (HoldCommits worker from (commits_between commits from to)) (sym (between commits from to worker upto))
      (stream-holds workers worker from (frame_count commits worker from) (commits_between commits from to)
      (all-take workers (to - from) (drop from commits) (all-drop workers from commits each)));
}
