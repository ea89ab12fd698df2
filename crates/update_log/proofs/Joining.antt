-- Streams with one more commit: its frames go behind those of its worker.
use Rattle.std.proofs.Common.{◌≡◌, ◌≢◌, ℕ, zero, suc, ◌+◌, ◌^◌, ◌<◌, ◌==◌, Bool, true, false, cond, List, [], ◌∷◌, ◌++◌, length}
use Rattle.std.proofs.Common.{refl, sym, ap, subst, ◌∙◌, append_assoc, append-nil, length-append, inl, inr, arith}
use Rattle.std.specs.List.{slice_set, AllByRecursion}
use Rattle.std.proofs.lemmas.Bool.{eq-eqb, ne_eqb, cases_eq}
use Rattle.rows.specs.declared.commit.Commit.{Commit}
use Rattle.update_log.specs.declared.frame.Frame.{Frame}
use Rattle.update_log.specs.declared.span.Span.{Span}
use Rattle.update_log.specs.Frames.{IsCuttable, IsSendable, frames_of}
use Rattle.update_log.specs.Streams.{AreStreamsOf, stream_at, stream_from, stream_of, next_frames, extended}
use Rattle.update_log.specs.Inner.Spans.{spans_of, stream_spans_from, stream_spans}
use Rattle.update_log.proofs.Elements.{all-append}
use Rattle.update_log.proofs.Framing.{frames-sendable}
use Rattle.update_log.proofs.Spans.{spans-counted}

-- the frames that a commit adds to the stream of a worker
abbrev added : ℕ → Commit → ℕ → ℕ → List Frame
added worker commit number first = cond (commit.worker == worker) (frames_of commit number first) []

stream-push : (worker before first : ℕ) (commits : List Commit) (commit : Commit)
    → stream_from worker before first (commits ++ commit ∷ []) ≡ stream_from worker before first commits
    ++ added worker commit (before + length commits + 1) (first + length (stream_from worker before first commits))
stream-push worker before first [] commit =
    let number : before + 1 ≡ before + 0 + 1 = omega arith in
    let seq : first ≡ first + 0 = omega arith in
    append-nil (added worker commit (before + 1) first)
    ∙ ap (λ (n : ℕ). added worker commit n first) number
    ∙ ap (added worker commit (before + 0 + 1)) seq
stream-push worker before first (one ∷ commits) commit =
    let front = added worker one (before + 1) first in
    let back = stream_from worker (before + 1) (first + length front) commits in
    let number : before + 1 + length commits + 1 ≡ before + suc (length commits) + 1 = omega arith in
    let seq : first + length front + length back ≡ first + length (front ++ back) = omega (arith, length-append front back) in
    ap (λ (more : List Frame). front ++ more) (stream-push worker (before + 1) (first + length front) commits commit)
    ∙ sym (append_assoc front back (added worker commit (before + 1 + length commits + 1) (first + length front + length back)))
    ∙ ap (λ (n : ℕ). (front ++ back) ++ added worker commit n (first + length front + length back)) number
    ∙ ap (λ (n : ℕ). (front ++ back) ++ added worker commit (before + suc (length commits) + 1) n) seq

-- and where their entries stand
abbrev spans_added : ℕ → Commit → ℕ → List Span
spans_added worker commit number = cond (commit.worker == worker) (spans_of commit.entries number) []

spans-push : (worker before : ℕ) (commits : List Commit) (commit : Commit)
    → stream_spans_from worker before (commits ++ commit ∷ [])
    ≡ stream_spans_from worker before commits ++ spans_added worker commit (before + length commits + 1)
spans-push worker before [] commit =
    let number : before + 1 ≡ before + 0 + 1 = omega arith in
    append-nil (spans_added worker commit (before + 1)) ∙ ap (spans_added worker commit) number
spans-push worker before (one ∷ commits) commit =
    let front = spans_added worker one (before + 1) in
    let back = stream_spans_from worker (before + 1) commits in
    let number : before + 1 + length commits + 1 ≡ before + suc (length commits) + 1 = omega arith in
    ap (λ (more : List Span). front ++ more) (spans-push worker (before + 1) commits commit)
    ∙ sym (append_assoc front back (spans_added worker commit (before + 1 + length commits + 1)))
    ∙ ap (λ (n : ℕ). (front ++ back) ++ spans_added worker commit n) number

-- the stream that is kept of a worker once its list was replaced, and of any other
set-same : (streams : List (List Span)) (worker : ℕ) (now : List Span) → worker < length streams
    → stream_at (slice_set streams worker now) worker ≡ now
set-same [] worker now h = absurd (omega arith)
set-same (first ∷ streams) zero now h = refl
set-same (first ∷ streams) (suc worker) now h = set-same streams worker now (omega arith)

set-other : (streams : List (List Span)) (worker other : ℕ) (now : List Span) → other ≢ worker
    → stream_at (slice_set streams worker now) other ≡ stream_at streams other
set-other [] worker other now h = refl
set-other (first ∷ streams) zero zero now h = absurd (h refl)
set-other (first ∷ streams) zero (suc other) now h = refl
set-other (first ∷ streams) (suc worker) zero now h = refl
set-other (first ∷ streams) (suc worker) (suc other) now h = set-other streams worker other now (λ e. h (ap suc e))

-- a datagram spells each frame of the stream of one commit more
stream-sendable : (commits : List Commit) (commit : Commit) (worker : ℕ)
    → IsCuttable commit (length commits + 1) (length (stream_of commits commit.worker)) → length commits + 1 < 2 ^ 64
    → AllByRecursion IsSendable (stream_of commits worker) → AllByRecursion IsSendable (stream_of (commits ++ commit ∷ []) worker)
stream-sendable commits commit worker cuttable fits sendable =
    subst (AllByRecursion IsSendable)
    (sym (stream-push worker 0 0 commits commit))
    (all-append IsSendable (stream_of commits worker)
    (added worker commit (0 + length commits + 1) (0 + length (stream_of commits worker))) sendable (elim (cases_eq commit.worker worker) [
      | inl e ↦
          let ours : (commit.worker == worker) ≡ true = eq-eqb commit.worker worker e in
          let number : length commits + 1 ≡ 0 + length commits + 1 = omega arith in
          let seq : length (stream_of commits commit.worker) ≡ 0 + length (stream_of commits worker) =
          ap (λ w. length (stream_of commits w)) e ∙ omega arith in
          let frames = frames_of commit (length commits + 1) (length (stream_of commits commit.worker)) in
          subst (AllByRecursion IsSendable)
          (ap (λ n. frames_of commit n (length (stream_of commits commit.worker))) number
          ∙ ap (frames_of commit (0 + length commits + 1)) seq
          ∙ ap (λ b. cond b (frames_of commit (0 + length commits + 1) (0 + length (stream_of commits worker))) []) (sym ours))
          (frames-sendable commit (length commits + 1) (length (stream_of commits commit.worker)) frames cuttable fits refl)
      | inr other ↦
          let theirs : (commit.worker == worker) ≡ false = ne_eqb commit.worker worker other in
          subst (AllByRecursion IsSendable)
          (ap (λ b. cond b (frames_of commit (0 + length commits + 1) (0 + length (stream_of commits worker))) []) (sym theirs)) tt
    ]))

pub streams-extended : (streams : List (List Span)) (commits : List Commit) (commit : Commit) (number : ℕ)
    → commit.worker < length streams → AreStreamsOf streams commits
    → IsCuttable commit number (length (stream_at streams commit.worker)) → number < 2 ^ 64 → number ≡ length commits + 1
    → AreStreamsOf (extended streams (next_frames commit number)) (commits ++ commit ∷ [])
streams-extended streams commits commit number there are cuttable fits numbered = record {
  each = each;
  counted = λ worker. ap length (each worker) ∙ spans-counted worker 0 0 (commits ++ commit ∷ []);
  sendable = λ worker. stream-sendable commits commit worker cut (omega arith) (are.sendable worker);
}
  where
    cut : IsCuttable commit (length commits + 1) (length (stream_of commits commit.worker))
    cut =
        subst (λ first. IsCuttable commit (length commits + 1) first) (are.counted commit.worker)
        (subst (λ n. IsCuttable commit n (length (stream_at streams commit.worker))) numbered cuttable)

    pushed : (worker : ℕ)
        → stream_spans (commits ++ commit ∷ []) worker ≡ stream_spans commits worker ++ spans_added worker commit number
    pushed worker =
        let next : 0 + length commits + 1 ≡ number = omega arith in
        spans-push worker 0 commits commit
        ∙ ap (λ (n : ℕ). stream_spans commits worker ++ spans_added worker commit n) next

    each : (worker : ℕ) → stream_at (extended streams (next_frames commit number)) worker ≡ stream_spans (commits ++ commit ∷ []) worker
    each worker =
        let now = stream_at streams commit.worker ++ spans_of commit.entries number in
        elim (cases_eq worker commit.worker) [
          | inl e ↦
              let ours : (commit.worker == worker) ≡ true = eq-eqb commit.worker worker (sym e) in
              let before : stream_at streams commit.worker ≡ stream_spans commits worker =
              are.each commit.worker ∙ ap (stream_spans commits) (sym e) in
              ap (stream_at (slice_set streams commit.worker now)) e
              ∙ set-same streams commit.worker now there
              ∙ ap (λ (stream : List Span). stream ++ spans_of commit.entries number) before
              ∙ ap (λ (b : Bool). stream_spans commits worker ++ cond b (spans_of commit.entries number) []) (sym ours)
              ∙ sym (pushed worker)
          | inr other ↦
              let theirs : (commit.worker == worker) ≡ false = ne_eqb commit.worker worker (λ e. other (sym e)) in
              set-other streams commit.worker worker now other
              ∙ are.each worker
              ∙ sym (append-nil (stream_spans commits worker))
              ∙ ap (λ (b : Bool). stream_spans commits worker ++ cond b (spans_of commit.entries number) []) (sym theirs)
              ∙ sym (pushed worker)
        ]
