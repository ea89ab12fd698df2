-- Frames that hold lists of commits: the first commit, and what is left behind it.
use Rattle.std.proofs.Common.{◌≡◌, ℕ, ◌+◌, ◌<◌, ◌==◌, Bool, true, false, cond, List, [], ◌∷◌, ◌++◌, length, refl, sym, ap, subst}
use Rattle.std.proofs.Common.{◌∙◌, inl, inr, append-nil, arith}
use Rattle.std.specs.List.{flat_map, AllByRecursion}
use Rattle.std.proofs.lemmas.Bool.{eq-eqb, ne_eqb, cases_eq}
use Rattle.rows.specs.declared.commit.Commit.{Commit}
use Rattle.rows.specs.declared.entry.Entry.{Entry}
use Rattle.update_log.specs.declared.frame.Frame.{Frame}
use Rattle.ordering.specs.Merging.{HoldCommit, HoldIfOwn, HoldCommits, HoldFirst, AreHeld, IsMerge}
use Rattle.ordering.specs.Inner.Progress.{is_first_numbered, HoldNone, IsStuck}
use Rattle.ordering.proofs.Beginning.{some-own}
use Rattle.ordering.proofs.Marking.{same-beginning}

-- the first frames of a worker hold a commit, and the rest the others
pub record IsFirst (number : ℕ) (worker : ℕ) (entries : List Entry) (more : List Commit) (frames : List Frame) : Type 0 where
  pub own : List Frame
  pub rest : List Frame
  pub whole : frames ≡ own ++ rest
  pub holds : HoldCommit number entries own
  pub held : HoldCommits worker number more rest

pub held-own : (number : ℕ) (entries : List Entry) (own : List Frame) (ours : Bool) → ours ≡ true → HoldIfOwn ours number entries own
    → HoldCommit number entries own
held-own number entries own ours e holds = subst (λ (b : Bool). HoldIfOwn b number entries own) e holds

pub held-none : (number : ℕ) (entries : List Entry) (own : List Frame) (ours : Bool) → ours ≡ false → HoldIfOwn ours number entries own
    → own ≡ []
held-none number entries own ours e holds = subst (λ (b : Bool). HoldIfOwn b number entries own) e holds

-- of its own commit a worker's frames hold what they begin with
pub first-own : (worker before : ℕ) (commit : Commit) (more : List Commit) (frames : List Frame) → commit.worker ≡ worker
    → HoldCommits worker before (commit ∷ more) frames → IsFirst (before + 1) worker commit.entries more frames
first-own worker before commit more frames ours held = record {
  own = held.0;
  rest = held.1;
  whole = held.2;
  holds = held-own (before + 1) commit.entries held.0 (commit.worker == worker) (eq-eqb commit.worker worker ours) held.3;
  held = held.4;
}

-- and of another's nothing
pub first-other : (worker before : ℕ) (commit : Commit) (more : List Commit) (frames : List Frame) → (commit.worker ≡ worker → ⊥)
    → HoldCommits worker before (commit ∷ more) frames → HoldCommits worker (before + 1) more frames
first-other worker before commit more frames other held =
    let none : held.0 ≡ [] =
    held-none (before + 1) commit.entries held.0 (commit.worker == worker) (ne_eqb commit.worker worker other) held.3 in
    let rest_is : held.1 ≡ frames = ap (λ (own : List Frame). own ++ held.1) (sym none) ∙ sym held.2 in
    subst (HoldCommits worker (before + 1) more) rest_is held.4

-- the frames of later commits bear later numbers
pub later : (worker before : ℕ) (commits : List Commit) (frame : Frame) (frames : List Frame)
    → HoldCommits worker before commits (frame ∷ frames) → before < frame.commit
later worker before [] frame frames held = absurd cc
later worker before (commit ∷ more) frame frames held = elim (cases_eq commit.worker worker) [
  | inl ours ↦ own-later (first-own worker before commit more (frame ∷ frames) ours held)
  | inr other ↦
      let behind : before + 1 < frame.commit =
      later worker (before + 1) more frame frames (first-other worker before commit more (frame ∷ frames) other held) in
      omega arith
]
  where
    of-own : (own rest : List Frame) → 0 < length own → frame ∷ frames ≡ own ++ rest
        → AllByRecursion (λ frame. frame.commit ≡ before + 1) own → before < frame.commit
    of-own [] rest some whole numbered = absurd (omega arith)
    of-own (first ∷ own) rest some whole numbered =
        let same : frame ≡ first = cc in
        let number : frame.commit ≡ before + 1 = ap (λ (f : Frame). f.commit) same ∙ numbered.0 in
        omega arith

    own-later : IsFirst (before + 1) worker commit.entries more (frame ∷ frames) → before < frame.commit
    own-later first =
        of-own first.own first.rest (some-own (before + 1) commit.entries first.own first.holds) first.whole first.holds.numbered

-- so frames that begin with that number hold no later commits alone
not-later : (worker before : ℕ) (commits : List Commit) (frames : List Frame) → is_first_numbered before frames ≡ true
    → HoldCommits worker before commits frames → ⊥
not-later worker before commits [] begins held = absurd cc
not-later worker before commits (frame ∷ frames) begins held =
    let behind : before < frame.commit = later worker before commits frame frames held in
    let other : (frame.commit == before) ≡ false = ne_eqb frame.commit before (λ e. absurd (omega arith)) in
    absurd cc

-- frames that hold a commit begin with its number
pub begins-own : (number : ℕ) (entries : List Entry) (own rest : List Frame) → HoldCommit number entries own
    → is_first_numbered number (own ++ rest) ≡ true
begins-own number entries [] rest holds = absurd (omega (arith, some-own number entries [] holds))
begins-own number entries (frame ∷ own) rest holds = eq-eqb frame.commit number holds.numbered.0

-- of whom the next commit is: of the worker whose frames begin with its number
same-worker : (before worker : ℕ) (left : ℕ → List Frame) (other : Commit) (more : List Commit)
    → is_first_numbered (before + 1) (left worker) ≡ true → AreHeld before (other ∷ more) left → other.worker ≡ worker
same-worker before worker left other more begins held = elim (cases_eq other.worker worker) [
  | inl e ↦ e
  | inr differ ↦
      let behind = first-other worker before other more (left worker) differ (held worker) in
      absurd (not-later worker (before + 1) more (left worker) begins behind)
]

-- ---- where there is no next commit

pub stuck-none : (before : ℕ) (left : ℕ → List Frame) → ((worker : ℕ) → is_first_numbered (before + 1) (left worker) ≡ false)
    → IsStuck before left
stuck-none before left none other more held =
    let first = first-own other.worker before other more (left other.worker) refl (held other.worker) in
    let begins : is_first_numbered (before + 1) (left other.worker) ≡ true =
    ap (is_first_numbered (before + 1)) first.whole ∙ begins-own (before + 1) other.entries first.own first.rest first.holds in
    let differs : is_first_numbered (before + 1) (left other.worker) ≡ false = none other.worker in
    absurd cc

pub stuck-here : (before worker : ℕ) (left : ℕ → List Frame) → is_first_numbered (before + 1) (left worker) ≡ true
    → HoldNone (before + 1) (left worker) → IsStuck before left
stuck-here before worker left begins none other more held =
    let ours = same-worker before worker left other more begins held in
    let first = first-own worker before other more (left worker) ours (held worker) in
    none other.entries first.own first.rest first.whole first.holds

-- ---- where there is one

-- from the frames that are left, one more commit was taken: it is the next of every list of commits that they hold
pub record IsCommitTaken (before : ℕ) (left : ℕ → List Frame) (commit : Commit) (after : ℕ → List Frame) : Type 0 where
  pub onto : (more : List Commit) → AreHeld (before + 1) more after → AreHeld before (commit ∷ more) left
  pub only : (other : Commit) (more : List Commit) → AreHeld before (other ∷ more) left → (other ≡ commit) × AreHeld (before + 1) more after

-- what takes the worker's own frames away, and leaves those of all others
pub record IsTaken (left : ℕ → List Frame) (worker : ℕ) (own : List Frame) (after : ℕ → List Frame) : Type 0 where
  pub whole : left worker ≡ own ++ after worker
  pub others : (other : ℕ) → (other ≡ worker → ⊥) → after other ≡ left other

step-onto : (before : ℕ) (left : ℕ → List Frame) (commit : Commit) (own : List Frame) (after : ℕ → List Frame)
    → HoldCommit (before + 1) commit.entries own → IsTaken left commit.worker own after → (more : List Commit)
    → AreHeld (before + 1) more after → AreHeld before (commit ∷ more) left
step-onto before left commit own after holds is_taken more held worker = elim (cases_eq commit.worker worker) [
  | inl ours ↦ (
    own,
    after worker,
    subst (λ (w : ℕ). left w ≡ own ++ after w) ours is_taken.whole,
    subst (λ (b : Bool). HoldIfOwn b (before + 1) commit.entries own) (sym (eq-eqb commit.worker worker ours)) holds,
    held worker,
  )
  | inr other ↦ (
    [],
    left worker,
    refl,
    subst (λ (b : Bool). HoldIfOwn b (before + 1) commit.entries []) (sym (ne_eqb commit.worker worker other)) refl,
    subst (HoldCommits worker (before + 1) more) (is_taken.others worker (λ e. other (sym e))) (held worker),
  )
]

same-commit : (commit other : Commit) → other.worker ≡ commit.worker → other.entries ≡ commit.entries → other ≡ commit
same-commit commit other worker entries =
    ap (λ (w : ℕ). record { worker = w; entries = other.entries }) worker
    ∙ ap (λ (es : List Entry). record { worker = commit.worker; entries = es }) entries

step-only : (before : ℕ) (left : ℕ → List Frame) (commit : Commit) (own : List Frame) (after : ℕ → List Frame)
    → HoldCommit (before + 1) commit.entries own → IsTaken left commit.worker own after → (other : Commit) (more : List Commit)
    → AreHeld before (other ∷ more) left → (other ≡ commit) × AreHeld (before + 1) more after
step-only before left commit own after holds is_taken other more held =
    (same-commit commit other ours (sym first.holds.joined ∙ ap entries_of same.0 ∙ holds.joined), each)
  where
    entries_of : List Frame → List Entry
    entries_of frames = flat_map (λ frame. frame.entries) frames

    begins : is_first_numbered (before + 1) (left commit.worker) ≡ true
    begins =
        ap (is_first_numbered (before + 1)) is_taken.whole ∙ begins-own (before + 1) commit.entries own (after commit.worker) holds

    ours : other.worker ≡ commit.worker
    ours = same-worker before commit.worker left other more begins held

    first : IsFirst (before + 1) commit.worker other.entries more (left commit.worker)
    first = first-own commit.worker before other more (left commit.worker) ours (held commit.worker)

    same : (first.own ≡ own) × (first.rest ≡ after commit.worker)
    same =
        same-beginning first.own own first.rest (after commit.worker)
        (some-own (before + 1) other.entries first.own first.holds) (some-own (before + 1) commit.entries own holds)
        first.holds.marked holds.marked (sym first.whole ∙ is_taken.whole)

    each : AreHeld (before + 1) more after
    each worker = elim (cases_eq worker commit.worker) [
      | inl e ↦
          subst (λ (w : ℕ). HoldCommits w (before + 1) more (after w)) (sym e)
          (subst (HoldCommits commit.worker (before + 1) more) same.1 first.held)
      | inr differ ↦
          subst (HoldCommits worker (before + 1) more) (sym (is_taken.others worker differ))
          (first-other worker before other more (left worker) (λ e. differ (sym e ∙ ours)) (held worker))
    ]

pub step : (before : ℕ) (left : ℕ → List Frame) (commit : Commit) (own : List Frame) (after : ℕ → List Frame)
    → HoldCommit (before + 1) commit.entries own → IsTaken left commit.worker own after → IsCommitTaken before left commit after
step before left commit own after holds is_taken = record {
  onto = step-onto before left commit own after holds is_taken;
  only = step-only before left commit own after holds is_taken;
}

-- the frames hold it first
pub first-held : (before : ℕ) (left : ℕ → List Frame) (commit : Commit) (own : List Frame) (after : ℕ → List Frame)
    → HoldCommit (before + 1) commit.entries own → IsTaken left commit.worker own after → HoldFirst before (commit ∷ []) left after
first-held before left commit own after holds is_taken worker = elim (cases_eq commit.worker worker) [
  | inl ours ↦ (
    own,
    subst (λ (w : ℕ). left w ≡ own ++ after w) ours is_taken.whole,
    (
      own,
      [],
      sym (append-nil own),
      subst (λ (b : Bool). HoldIfOwn b (before + 1) commit.entries own) (sym (eq-eqb commit.worker worker ours)) holds,
      refl,
    ),
  )
  | inr other ↦ (
    [],
    sym (is_taken.others worker (λ e. other (sym e))),
    (
      [],
      [],
      refl,
      subst (λ (b : Bool). HoldIfOwn b (before + 1) commit.entries []) (sym (ne_eqb commit.worker worker other)) refl,
      refl,
    ),
  )
]

-- frames hold one list of so many commits
pub held-unique : (before : ℕ) (frames : ℕ → List Frame) (commits others : List Commit) → length commits ≡ length others
    → AreHeld before commits frames → AreHeld before others frames → commits ≡ others
held-unique before frames [] [] same held others_held = refl
held-unique before frames [] (other ∷ others) same held others_held = absurd (omega arith)
held-unique before frames (commit ∷ commits) [] same held others_held = absurd (omega arith)
held-unique before frames (commit ∷ commits) (other ∷ others) same held others_held =
    let first = first-own commit.worker before commit commits (frames commit.worker) refl (held commit.worker) in
    let after : ℕ → List Frame = λ worker. cond (worker == commit.worker) first.rest (frames worker) in
    let is_taken : IsTaken frames commit.worker first.own after = taken-away frames commit.worker first.own first.rest first.whole in
    let next = step before frames commit first.own after first.holds is_taken in
    let this = next.only commit commits held in
    let that = next.only other others others_held in
    let here : other ≡ commit = that.0 in
    let behind : commits ≡ others = held-unique (before + 1) after commits others (omega arith) this.1 that.1 in
    cc
  where
    taken-away : (left : ℕ → List Frame) (worker : ℕ) (own rest : List Frame) → left worker ≡ own ++ rest
        → IsTaken left worker own (λ other. cond (other == worker) rest (left other))
    taken-away left worker own rest whole = record {
      whole = whole ∙ ap (λ (b : Bool). own ++ cond b rest (left worker)) (sym (eq-eqb worker worker refl));
      others = λ other differ. ap (λ (b : Bool). cond b rest (left other)) (ne_eqb other worker differ);
    }

pub merge-unique : (frames : ℕ → List Frame) (from to : ℕ) (commits others : List Commit) → IsMerge frames from to commits
    → IsMerge frames from to others → commits ≡ others
merge-unique frames from to commits others merge other =
    held-unique from frames commits others (omega (arith, merge.counted, other.counted)) merge.held other.held
