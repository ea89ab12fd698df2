-- A worker's stream goes on as commits come, and its counts grow.
use Rattle.std.proofs.Common.{◌≡◌, ℕ, zero, suc, ◌+◌, ◌≤◌, cond, ◌==◌, List, [], ◌∷◌, ◌++◌, length, take, drop, Some, refl, sym, ap, ◌∙◌}
use Rattle.std.proofs.Common.{arith}
use Rattle.std.specs.List.{slice_get}
use Rattle.std.proofs.lemmas.List.{append_assoc, length-append, take-append-le, take-append-drop, take-take}
use Rattle.std.proofs.lemmas.Option.{none-some}
use Rattle.rows.specs.declared.commit.Commit.{Commit}
use Rattle.update_log.specs.declared.frame.Frame.{Frame}
use Rattle.update_log.specs.Frames.{frames_of}
use Rattle.update_log.specs.Streams.{stream_from, stream_of, frame_count}

stream_from-more : (worker before first : ℕ) (commits more : List Commit) → (rest : List Frame)
    × (stream_from worker before first (commits ++ more) ≡ stream_from worker before first commits ++ rest)
stream_from-more worker before first [] more = (stream_from worker before first more, refl)
stream_from-more worker before first (commit ∷ commits) more =
    let frames : List Frame = cond (commit.worker == worker) (frames_of commit (before + 1) first) [] in
    let behind = stream_from-more worker (before + 1) (first + length frames) commits more in (
      behind.0,
      ap (λ (l : List Frame). frames ++ l) behind.1
          ∙ sym (append_assoc frames (stream_from worker (before + 1) (first + length frames) commits) behind.0),
    )

found-stays : (stream rest : List Frame) (seq : ℕ) (frame : Frame) → slice_get stream seq ≡ Some frame
    → slice_get (stream ++ rest) seq ≡ Some frame
found-stays [] rest seq frame h = absurd (none-some frame h)
found-stays (first ∷ stream) rest zero frame h = h
found-stays (first ∷ stream) rest (suc seq) frame h = found-stays stream rest seq frame h

-- a frame that is there stays
pub stream-stays : (commits more : List Commit) (worker seq : ℕ) (frame : Frame) → slice_get (stream_of commits worker) seq ≡ Some frame
    → slice_get (stream_of (commits ++ more) worker) seq ≡ Some frame
stream-stays commits more worker seq frame h =
    let rest = stream_from-more worker 0 0 commits more in
    ap (λ (l : List Frame). slice_get l seq) rest.1 ∙ found-stays (stream_of commits worker) rest.0 seq frame h

-- and so does the count at a version that is there
pub count-stays : (commits more : List Commit) (worker version : ℕ) → version ≤ length commits
    → frame_count (commits ++ more) worker version ≡ frame_count commits worker version
count-stays commits more worker version h = rw take-append-le refl

-- no more frames belong to fewer commits
pub count-grows : (commits : List Commit) (worker from to : ℕ) → from ≤ to → frame_count commits worker from ≤ frame_count commits worker to
count-grows commits worker from to up =
    let first = take to commits in
    let fewer : take from first ≡ take from commits = rw take-take refl in
    let rest = stream_from-more worker 0 0 (take from first) (drop from first) in
    let joined : take from first ++ drop from first ≡ first = take-append-drop from first in
    let all : stream_of first worker ≡ stream_of (take from first) worker ++ rest.0 =
    ap (λ (l : List Commit). stream_of l worker) (sym joined) ∙ rest.1 in
    let len = ap length all ∙ length-append (stream_of (take from first) worker) rest.0 in
    let same = ap (λ (l : List Commit). length (stream_of l worker)) fewer in
    omega (arith, len, same)
