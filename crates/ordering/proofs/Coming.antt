-- How far a merge has come: the commits that frames hold first, and what the rest holds.
use Rattle.std.proofs.Common.{◌≡◌, ℕ, ◌+◌, ◌<◌, ◌≤◌, ◌==◌, List, [], ◌∷◌, ◌++◌, length, refl, sym, ap, subst, ◌∙◌, append_assoc}
use Rattle.std.proofs.Common.{length-append, arith}
use Rattle.std.proofs.lemmas.Bool.{eq-eqb, ne_eqb}
use Rattle.rows.specs.declared.commit.Commit.{Commit}
use Rattle.update_log.specs.declared.frame.Frame.{Frame}
use Rattle.ordering.specs.Merging.{HoldCommits, HoldFirst, AreHeld, IsMerge}
use Rattle.ordering.specs.Inner.Progress.{IsStuck}
use Rattle.ordering.proofs.Holding.{IsCommitTaken, IsTaken, held-none, held-own, step}

pub first-none : (frames : ℕ → List Frame) (from : ℕ) → HoldFirst from [] frames frames
first-none frames from worker = ([], refl, refl)

-- ---- one list of commits behind another

-- a worker's frames of one, and those of the other behind them
held-join : (worker from mid : ℕ) (commits more : List Commit) (front back : List Frame) → from + length commits ≡ mid
    → HoldCommits worker from commits front → HoldCommits worker mid more back → HoldCommits worker from (commits ++ more) (front ++ back)
held-join worker from mid [] more front back e held behind =
    let here : mid ≡ from = omega (arith, e) in
    subst (HoldCommits worker from more) (ap (λ (fs : List Frame). fs ++ back) (sym held))
    (subst (λ (n : ℕ). HoldCommits worker n more back) here behind)
held-join worker from mid (commit ∷ commits) more front back e held behind = (
  held.0,
  held.1 ++ back,
  ap (λ (fs : List Frame). fs ++ back) held.2 ∙ append_assoc held.0 held.1 back,
  held.3,
  held-join worker (from + 1) mid commits more held.1 back (omega (arith, e)) held.4 behind,
)

pub parts-join : (frames rest last : ℕ → List Frame) (from mid : ℕ) (commits more : List Commit) → from + length commits ≡ mid
    → HoldFirst from commits frames rest → HoldFirst mid more rest last → HoldFirst from (commits ++ more) frames last
parts-join frames rest last from mid commits more e first behind worker =
    let front = first worker in
    let back = behind worker in (
      front.0 ++ back.0,
      front.1 ∙ ap (λ (fs : List Frame). front.0 ++ fs) back.1 ∙ sym (append_assoc front.0 back.0 (last worker)),
      held-join worker from mid commits more front.0 back.0 e front.2 back.2,
    )

pub part-begins : (frames rest : ℕ → List Frame) (from mid to : ℕ) (commits more : List Commit) → from + length commits ≡ mid
    → HoldFirst from commits frames rest → IsMerge rest mid to more → IsMerge frames from to (commits ++ more)
part-begins frames rest from mid to commits more e first merge = record {
  counted = omega (arith, e, merge.counted, length-append commits more);
  held = λ worker.
      let front = first worker in
      subst (HoldCommits worker from (commits ++ more)) (sym front.1)
      (held-join worker from mid commits more front.0 (rest worker) e front.2 (merge.held worker));
}

-- ---- what begins each list that the frames hold

-- the frames without those of the first commit
abbrev behind-first : (from : ℕ) (commit : Commit) (commits : List Commit) (frames rest : ℕ → List Frame)
    → HoldFirst from (commit ∷ commits) frames rest → ℕ → List Frame
behind-first from commit commits frames rest first worker = (first worker).2.1 ++ rest worker

taken-first : (from : ℕ) (commit : Commit) (commits : List Commit) (frames rest : ℕ → List Frame)
    → (first : HoldFirst from (commit ∷ commits) frames rest)
    → IsTaken frames commit.worker (first commit.worker).2.0 (behind-first from commit commits frames rest first)
taken-first from commit commits frames rest first = record {
  whole = whole commit.worker;
  others = λ other differ.
      let none : (first other).2.0 ≡ [] =
      held-none (from + 1) commit.entries (first other).2.0 (commit.worker == other)
      (ne_eqb commit.worker other (λ e. differ (sym e))) (first other).2.3 in
      ap (λ (own : List Frame). own ++ ((first other).2.1 ++ rest other)) (sym none) ∙ sym (whole other);
}
  where
    whole : (worker : ℕ) → frames worker ≡ (first worker).2.0 ++ ((first worker).2.1 ++ rest worker)
    whole worker =
        (first worker).1 ∙ ap (λ (fs : List Frame). fs ++ rest worker) (first worker).2.2
        ∙ append_assoc (first worker).2.0 (first worker).2.1 (rest worker)

first-taken : (from : ℕ) (commit : Commit) (commits : List Commit) (frames rest : ℕ → List Frame)
    → (first : HoldFirst from (commit ∷ commits) frames rest)
    → IsCommitTaken from frames commit (behind-first from commit commits frames rest first)
first-taken from commit commits frames rest first =
    step from frames commit (first commit.worker).2.0 (behind-first from commit commits frames rest first)
    (held-own (from + 1) commit.entries (first commit.worker).2.0 (commit.worker == commit.worker)
    (eq-eqb commit.worker commit.worker refl) (first commit.worker).2.3)
    (taken-first from commit commits frames rest first)

-- what the rest holds besides
abbrev Behind : ℕ → List Commit → (ℕ → List Frame) → List Commit → Type 0
Behind mid commits rest all = (more : List Commit) × (all ≡ commits ++ more) × AreHeld mid more rest

begins : (frames rest : ℕ → List Frame) (from mid : ℕ) (commits all : List Commit) → from + length commits ≡ mid
    → HoldFirst from commits frames rest → AreHeld from all frames → length commits ≤ length all → Behind mid commits rest all
begins frames rest from mid [] all e first held few =
    let here : from ≡ mid = omega (arith, e) in (
      all,
      refl,
      λ worker.
          subst (HoldCommits worker mid all) ((first worker).1 ∙ ap (λ (own : List Frame). own ++ rest worker) (first worker).2)
          (subst (λ (n : ℕ). HoldCommits worker n all (frames worker)) here (held worker)),
    )
begins frames rest from mid (commit ∷ commits) [] e first held few = absurd (omega (arith, few))
begins frames rest from mid (commit ∷ commits) (other ∷ all) e first held few =
    let next = (first-taken from commit commits frames rest first).only other all held in
    let past =
    begins (behind-first from commit commits frames rest first) rest (from + 1) mid commits all (omega (arith, e))
    (λ worker. ((first worker).2.1, refl, (first worker).2.4)) next.1 (omega (arith, few)) in
    (past.0, ap (λ (c : Commit). c ∷ all) next.0 ∙ ap (λ (cs : List Commit). commit ∷ cs) past.1, past.2)

pub merge-begins : (frames rest : ℕ → List Frame) (from mid to : ℕ) (commits all : List Commit) → from + length commits ≡ mid
    → mid ≤ to → HoldFirst from commits frames rest → IsMerge frames from to all
    → (more : List Commit) × (all ≡ commits ++ more) × IsMerge rest mid to more
merge-begins frames rest from mid to commits all e up first merge =
    let past = begins frames rest from mid commits all e first merge.held (omega (arith, e, up, merge.counted)) in (
      past.0,
      past.1,
      record {
        counted = omega (arith, e, merge.counted, ap length past.1, length-append commits past.0);
        held = past.2;
      },
    )

-- ---- where it ends or stops

-- where no next commit stands, no list of commits is the merge
pub first-stuck : (frames rest : ℕ → List Frame) (from mid to : ℕ) (commits : List Commit) → from + length commits ≡ mid → mid < to
    → HoldFirst from commits frames rest → IsStuck mid rest → (all : List Commit) → IsMerge frames from to all → ⊥
first-stuck frames rest from mid to commits e below first stuck all merge =
    let past = merge-begins frames rest from mid to commits all e (omega (arith, below)) first merge in one past.0 past.2
  where
    one : (more : List Commit) → IsMerge rest mid to more → ⊥
    one [] behind = absurd (omega (arith, below, behind.counted))
    one (other ∷ more) behind = stuck other more behind.held

-- where all numbers are there and no frame is left, nothing is behind
pub none-left : (rest : ℕ → List Frame) (to : ℕ) → ((worker : ℕ) → rest worker ≡ []) → IsMerge rest to to []
none-left rest to none = record { counted = omega arith; held = none }

-- and where a frame is left, no list of commits is the merge
pub first-left : (frames rest : ℕ → List Frame) (from to : ℕ) (commits : List Commit) → from + length commits ≡ to
    → HoldFirst from commits frames rest → (worker : ℕ) → 0 < length (rest worker) → (all : List Commit) → IsMerge frames from to all → ⊥
first-left frames rest from to commits e first worker some all merge =
    let past = merge-begins frames rest from to to commits all e (omega arith) first merge in one past.0 past.2
  where
    one : (more : List Commit) → IsMerge rest to to more → ⊥
    one [] behind = absurd (omega (arith, some, ap length (behind.held worker)))
    one (other ∷ more) behind = absurd (omega (arith, behind.counted))
