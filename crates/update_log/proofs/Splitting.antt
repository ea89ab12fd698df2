-- A stream split at a version: the frames of the first commits stand before all others, and halving finds how many they are.
use Rattle.std.proofs.Common.{◌≡◌, ℕ, zero, suc, ◌+◌, ◌<◌, ◌≤◌, ◌==◌, Bool, true, false, cond, List, [], ◌∷◌, ◌++◌, length, get_or}
use Rattle.std.proofs.Common.{take, drop, refl, sym, ap, subst, ◌∙◌, append_assoc, length-append, arith}
use Rattle.std.specs.Prelude.{nat_le}
use Rattle.std.specs.List.{AllByRecursion}
use Rattle.std.specs.List.Sorted.{IsPartitionPoint, IsPartitionedBy}
use Rattle.std.proofs.lemmas.Bool.{le-leb, lt-leb}
use Rattle.rows.specs.declared.commit.Commit.{Commit}
use Rattle.rows.specs.declared.entry.Entry.{Entry}
use Rattle.update_log.specs.declared.span.Span.{Span}
use Rattle.update_log.specs.Parts.{parts_of}
use Rattle.update_log.specs.Streams.{frame_count}
use Rattle.update_log.specs.Inner.Spans.{spans_from, spans_of, stream_spans_from, stream_spans}
use Rattle.update_log.specs.Inner.Splitting.{IsSplitAt}
use Rattle.update_log.proofs.Elements.{all-append, all-get_or}
use Rattle.update_log.proofs.Spans.{spans-counted}

-- ---- of which commits the frames of a stream are

spans-of-number : (P : ℕ → Type 0) (number start : ℕ) (parts : List (List Entry)) → P number
    → AllByRecursion (λ span. P span.commit) (spans_from number start parts)
spans-of-number P number start [] h = tt
spans-of-number P number start (part ∷ parts) h = (h, spans-of-number P number (start + length part) parts h)

-- what holds of the numbers of commits that stand behind others holds of each frame's
stream-all : (P : ℕ → Type 0) (worker before : ℕ) (commits : List Commit)
    → ((number : ℕ) → before < number → number ≤ before + length commits → P number)
    → AllByRecursion (λ span. P span.commit) (stream_spans_from worker before commits)
stream-all P worker before [] h = tt
stream-all P worker before (commit ∷ commits) h =
    one (commit.worker == worker)
    (stream-all P worker (before + 1) commits (λ number low high. h number (omega arith) (omega arith)))
  where
    one : (ours : Bool) → AllByRecursion (λ span. P span.commit) (stream_spans_from worker (before + 1) commits)
        → AllByRecursion (λ span. P span.commit)
        (cond ours (spans_of commit.entries (before + 1)) [] ++ stream_spans_from worker (before + 1) commits)
    one true rest =
        all-append (λ (span : Span). P span.commit) (spans_of commit.entries (before + 1)) (stream_spans_from worker (before + 1) commits)
        (spans-of-number P (before + 1) 0 (parts_of commit.entries) (h (before + 1) (omega arith) (omega arith))) rest
    one false rest = rest

-- the stream of the first commits, and that of the others behind it
stream-split : (worker before v : ℕ) (commits : List Commit)
    → stream_spans_from worker before commits
    ≡ stream_spans_from worker before (take v commits) ++ stream_spans_from worker (before + v) (drop v commits)
stream-split worker before zero commits =
    let none : before ≡ before + 0 = omega arith in ap (λ (n : ℕ). stream_spans_from worker n commits) none
stream-split worker before (suc v) [] = refl
stream-split worker before (suc v) (commit ∷ commits) =
    let own : List Span = cond (commit.worker == worker) (spans_of commit.entries (before + 1)) [] in
    let front = stream_spans_from worker (before + 1) (take v commits) in
    let later : before + 1 + v ≡ before + suc v = omega arith in
    ap (λ (more : List Span). own ++ more) (stream-split worker (before + 1) v commits)
    ∙ sym (append_assoc own front (stream_spans_from worker (before + 1 + v) (drop v commits)))
    ∙ ap (λ (n : ℕ). (own ++ front) ++ stream_spans_from worker n (drop v commits)) later

take-few : (v : ℕ) (commits : List Commit) → length (take v commits) ≤ v
take-few zero commits = omega arith
take-few (suc v) [] = omega arith
take-few (suc v) (commit ∷ commits) = omega (arith, take-few v commits)

pub stream-is_split : (commits : List Commit) (worker version : ℕ)
    → IsSplitAt version (stream_spans commits worker) (stream_spans (take version commits) worker)
    (stream_spans_from worker (0 + version) (drop version commits))
stream-is_split commits worker version = record {
  whole = stream-split worker 0 version commits;
  upto =
      stream-all (λ number. number ≤ version) worker 0 (take version commits)
      (λ number low high. omega (arith, take-few version commits));
  behind =
      stream-all (λ number. version < number) worker (0 + version) (drop version commits) (λ number low high. omega arith);
}

-- where a worker has no frames, it has none up to any version
pub count-none : (commits : List Commit) (worker version : ℕ) → [] ≡ stream_spans commits worker → 0 ≡ frame_count commits worker version
count-none commits worker version none =
    let split = stream-is_split commits worker version in
    omega (
      arith,
      ap length (none ∙ split.whole),
      length-append (stream_spans (take version commits) worker) (stream_spans_from worker (0 + version) (drop version commits)),
      spans-counted worker 0 0 (take version commits),
    )

-- ---- halving

abbrev is_upto : ℕ → Span → Bool
is_upto version span = nat_le span.commit version

point-is : (version : ℕ) (front back : List Span) (end : ℕ) → AllByRecursion (λ span. span.commit ≤ version) front
    → AllByRecursion (λ span. version < span.commit) back → end ≤ length (front ++ back)
    → IsPartitionPoint (λ span. is_upto version span ≡ true) (λ span. is_upto version span ≡ false) (front ++ back) end
    → end ≡ length front
point-is version [] back zero upto behind within point = refl
point-is version [] [] (suc end) upto behind within point = absurd (omega arith)
point-is version [] (span ∷ back) (suc end) upto behind within point =
    let below : is_upto version span ≡ true = point.0 0 span (omega arith) (omega arith) in
    let above : is_upto version span ≡ false = lt-leb span.commit version behind.0 in
    absurd cc
point-is version (span ∷ front) back zero upto behind within point =
    let above : is_upto version span ≡ false = point.1 0 span (omega arith) (omega arith) in
    let below : is_upto version span ≡ true = le-leb span.commit version upto.0 in
    absurd cc
point-is version (span ∷ front) back (suc end) upto behind within point =
    ap suc (point-is version front back end upto.1 behind (omega arith)
    (λ k d low high. point.0 (suc k) d (omega arith) (omega arith), λ k d low high. point.1 (suc k) d (omega arith) (omega arith)))

pub passes-before : (version : ℕ) (front back : List Span) → AllByRecursion (λ span. span.commit ≤ version) front
    → AllByRecursion (λ span. version < span.commit) back → IsPartitionedBy (is_upto version) (front ++ back)
passes-before version [] back upto behind i j d low high passes =
    let above : is_upto version (get_or back j d) ≡ false =
    lt-leb (get_or back j d).commit version (all-get_or (λ (span : Span). version < span.commit) back j d high behind) in
    absurd cc
passes-before version (span ∷ front) back upto behind zero j d low high passes = le-leb span.commit version upto.0
passes-before version (span ∷ front) back upto behind (suc i) zero d low high passes = absurd (omega arith)
passes-before version (span ∷ front) back upto behind (suc i) (suc j) d low high passes =
    passes-before version front back upto.1 behind i j d (omega arith) (omega arith) passes

-- where the frames of later commits begin, those before are counted
pub count-split : (version : ℕ) (spans front back : List Span) (end : ℕ) → IsSplitAt version spans front back → end ≤ length spans
    → (IsPartitionedBy (is_upto version) spans
    → IsPartitionPoint (λ span. is_upto version span ≡ true) (λ span. is_upto version span ≡ false) spans end)
    → end ≡ length front
count-split version spans front back end split within point =
    let whole = split.whole in
    let parts : IsPartitionedBy (is_upto version) spans =
    subst (IsPartitionedBy (is_upto version)) (sym whole) (passes-before version front back split.upto split.behind) in
    let few : end ≤ length (front ++ back) = omega (arith, ap length whole) in
    point-is version front back end split.upto split.behind few
    (subst (λ (fs : List Span). IsPartitionPoint (λ span. is_upto version span ≡ true) (λ span. is_upto version span ≡ false) fs end)
    whole (point parts))
