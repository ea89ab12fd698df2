-- Streams of commits that stand after others.
use Rattle.std.proofs.Common.{◌≡◌, ℕ, suc, ◌+◌, ◌==◌, Bool, true, false, cond, List, [], ◌∷◌, ◌++◌, length, map, refl, sym, ap, ◌∙◌}
use Rattle.std.proofs.Common.{append_assoc, length-append, arith}
use Rattle.std.proofs.lemmas.List.{map-append, length-map}
use Rattle.rows.specs.declared.commit.Commit.{Commit}
use Rattle.rows.specs.declared.entry.Entry.{Entry}
use Rattle.update_log.specs.declared.frame.Frame.{Frame}
use Rattle.update_log.specs.Parts.{parts_of}
use Rattle.update_log.specs.Frames.{frames_from, frames_of}
use Rattle.update_log.specs.Streams.{stream_from, stream_of, shifted}
use Rattle.update_log.specs.Laws.{StreamGoesOn}

-- the frames of a commit whose number and first seq are shifted
frames-shifted : (commits frames worker number seq : ℕ) (parts : List (List Entry))
    → frames_from worker (commits + number) (frames + seq) parts ≡ map (shifted commits frames) (frames_from worker number seq parts)
frames-shifted commits frames worker number seq [] = refl
frames-shifted commits frames worker number seq (part ∷ parts) =
    let next : frames + seq + 1 ≡ frames + (seq + 1) = omega arith in
    ap (λ (rest : List Frame). record {
      worker = worker;
      seq = frames + seq;
      commit = commits + number;
      last = length parts == 0;
      entries = part;
    } ∷ rest)
    (ap (λ (n : ℕ). frames_from worker (commits + number) n parts) next
    ∙ frames-shifted commits frames worker number (seq + 1) parts)

-- and those of a worker's commits
stream-shifted : (commits frames worker before first : ℕ) (list : List Commit)
    → stream_from worker (commits + before) (frames + first) list ≡ map (shifted commits frames) (stream_from worker before first list)
stream-shifted commits frames worker before first [] = refl
stream-shifted commits frames worker before first (commit ∷ list) =
    by (commit.worker == worker) (λ next. stream-shifted commits frames worker (before + 1) next list)
  where
    by : (ours : Bool)
        → ((next : ℕ) → stream_from worker (commits + (before + 1)) (frames + next) list
        ≡ map (shifted commits frames) (stream_from worker (before + 1) next list))
        → cond ours (frames_of commit (commits + before + 1) (frames + first)) []
        ++ stream_from worker (commits + before + 1)
        (frames + first + length (cond ours (frames_of commit (commits + before + 1) (frames + first)) [])) list
        ≡ map (shifted commits frames) (cond ours (frames_of commit (before + 1) first) []
        ++ stream_from worker (before + 1) (first + length (cond ours (frames_of commit (before + 1) first) [])) list)
    by false rest =
        let number : commits + before + 1 ≡ commits + (before + 1) = omega arith in
        let seq : frames + first + 0 ≡ frames + (first + 0) = omega arith in
        ap (λ (n : ℕ). stream_from worker n (frames + first + 0) list) number
        ∙ ap (λ (n : ℕ). stream_from worker (commits + (before + 1)) n list) seq ∙ rest (first + 0)
    by true rest =
        let number : commits + before + 1 ≡ commits + (before + 1) = omega arith in
        let own = frames_of commit (before + 1) first in
        let moved = map (shifted commits frames) own in
        let front : frames_of commit (commits + before + 1) (frames + first) ≡ moved =
        ap (λ (n : ℕ). frames_of commit n (frames + first)) number
        ∙ frames-shifted commits frames commit.worker (before + 1) first (parts_of commit.entries) in
        let seq : frames + first + length moved ≡ frames + (first + length own) =
        omega (arith, length-map own (shifted commits frames)) in
        ap (λ (f : List Frame). f ++ stream_from worker (commits + before + 1) (frames + first + length f) list) front
        ∙ ap (λ (n : ℕ). moved ++ stream_from worker n (frames + first + length moved) list) number
        ∙ ap (λ (n : ℕ). moved ++ stream_from worker (commits + (before + 1)) n list) seq
        ∙ ap (λ (f : List Frame). moved ++ f) (rest (first + length own))
        ∙ sym (map-append (shifted commits frames) own (stream_from worker (before + 1) (first + length own) list))

-- a stream and that of what comes behind
stream-behind : (worker before first : ℕ) (commits more : List Commit)
    → stream_from worker before first (commits ++ more)
    ≡ stream_from worker before first commits
    ++ stream_from worker (before + length commits) (first + length (stream_from worker before first commits)) more
stream-behind worker before first [] more =
    let number : before ≡ before + 0 = omega arith in
    let seq : first ≡ first + 0 = omega arith in
    ap (λ (n : ℕ). stream_from worker n first more) number ∙ ap (λ (n : ℕ). stream_from worker (before + 0) n more) seq
stream-behind worker before first (commit ∷ commits) more =
    let own : List Frame = cond (commit.worker == worker) (frames_of commit (before + 1) first) [] in
    let front = stream_from worker (before + 1) (first + length own) commits in
    let number : before + 1 + length commits ≡ before + suc (length commits) = omega arith in
    let seq : first + length own + length front ≡ first + length (own ++ front) = omega (arith, length-append own front) in
    ap (λ (f : List Frame). own ++ f) (stream-behind worker (before + 1) (first + length own) commits more)
    ∙ sym (append_assoc own front (stream_from worker (before + 1 + length commits) (first + length own + length front) more))
    ∙ ap (λ (n : ℕ). (own ++ front) ++ stream_from worker n (first + length own + length front) more) number
    ∙ ap (λ (n : ℕ). (own ++ front) ++ stream_from worker (before + suc (length commits)) n more) seq

pub stream-goes_on : StreamGoesOn
stream-goes_on before more worker =
    let frames = length (stream_of before worker) in
    let number : 0 + length before ≡ length before + 0 = omega arith in
    let seq : 0 + frames ≡ frames + 0 = omega arith in
    stream-behind worker 0 0 before more
    ∙ ap (λ (n : ℕ). stream_of before worker ++ stream_from worker n (0 + frames) more) number
    ∙ ap (λ (n : ℕ). stream_of before worker ++ stream_from worker (length before + 0) n more) seq
    ∙ ap (λ (f : List Frame). stream_of before worker ++ f) (stream-shifted (length before) frames worker 0 0 more)
