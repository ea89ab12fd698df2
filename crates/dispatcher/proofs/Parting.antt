-- The pieces of an image, applied part by part.
use Rattle.std.proofs.Common.{◌≡◌, ℕ, ◌+◌, ◌<◌, ◌≤◌, ◌==◌, Bool, true, false, List, [], ◌∷◌, ◌++◌, length, Some}
use Rattle.std.proofs.Common.{Result, Ok, Err, inl, inr, refl, sym, ap, subst, ◌∙◌, arith}
use Rattle.std.specs.Prelude.{IsErr}
use Rattle.std.proofs.lemmas.Bool.{false≢true}
use Rattle.std.proofs.lemmas.Bool.Decides.{nat_tests}
use Rattle.std.proofs.lemmas.List.{append_assoc, append-nil}
use Rattle.rows.specs.declared.commit.Commit.{Commit}
use Rattle.rows.specs.Commits.{apply_commits}
use Rattle.rows.specs.Tables.{Tables, Refusal, and_then}
use Rattle.store.specs.declared.faults.ApplyFault.{ApplyFault}
use Rattle.store.specs.declared.faults.ApplyFault.TheVariants as applying
use Rattle.store.specs.Faults.{FailsAs}
use Rattle.update_log.specs.declared.frame.Frame.{Frame}
use Rattle.intake.specs.Kept.{AreKept, frames_between}
use Rattle.intake.specs.Laws.{ReleasesLeaveOthers}
use Rattle.intake.specs.State.{Arrivals, frame_of}
use Rattle.intake.specs.Steps.{released}
use Rattle.dispatcher.specs.Inner.Held.{waiting_entries, commits_in}
use Rattle.dispatcher.specs.Inner.Parts.{IsPartDone}
use Rattle.dispatcher.proofs.Collecting.{AreMovedTo, moved-begins, moved-more, moved-ends, rest_of}
use Rattle.dispatcher.proofs.Versions.{apply_commits-append}

-- the pieces before a number are applied, but for the last few of them
pub record AreAppliedTo (whole all : List Arrivals) (pieces first : ℕ) (begun now : Tables) (part : List Commit) : Type 0 where
  pub done : List Commit
  pub moved : AreMovedTo whole all pieces first (done ++ part)
  pub made : apply_commits begun done ≡ Ok now
  pub rest : pieces ≤ first → part ≡ []

pub applied-begins : (all : List Arrivals) (pieces : ℕ) (tables : Tables) (part : List Commit) → part ≡ [] → AreKept all 0 0 pieces
    → AreAppliedTo all all pieces 0 tables tables part
applied-begins all pieces tables part none there =
    record { done = []; moved = moved-begins all pieces part none there; made = refl; rest = λ past. none }

-- ---- one piece more

pub apply-more : (begun before : Tables) (done more : List Commit) → apply_commits begun done ≡ Ok before
    → apply_commits begun (done ++ more) ≡ apply_commits before more
apply-more begun before done more made =
    apply_commits-append begun done more ∙ ap (and_then (λ after. apply_commits after more)) made

is-last : (first pieces : ℕ) → first < pieces → pieces ≤ first + 1 → ((first + 1) == pieces) ≡ true
is-last first pieces below past = grind (arith, nat_tests)

pub refused-first : (next : Tables → Result Tables Refusal) (first : Result Tables Refusal) → IsErr first → IsErr (and_then next first)
refused-first next (Ok after) h = absurd (cc)
refused-first next (Err refusal) h = refl

-- a part that cannot be applied can be so with nothing around it
fails-more : (fault : ApplyFault) (now some : Bool) (begun before : Tables) (done more rest : List Commit)
    → apply_commits begun done ≡ Ok before → FailsAs now some (apply_commits before more) fault → fault ≡ applying.Inconsistent
    → IsErr (apply_commits begun ((done ++ more) ++ rest))
fails-more applying.Inconsistent now some begun before done more rest made fails is =
    subst (λ (result : Result Tables Refusal). IsErr result)
    (sym (apply_commits-append begun (done ++ more) rest
    ∙ ap (and_then (λ after. apply_commits after rest)) (apply-more begun before done more made)))
    (refused-first (λ after. apply_commits after rest) (apply_commits before more) fails.1)
fails-more applying.Memory now some begun before done more rest made fails is = absurd (cc)
fails-more applying.Broken now some begun before done more rest made fails is = absurd (cc)

module _ (law : ReleasesLeaveOthers) (whole all new : List Arrivals) (pieces first : ℕ) (begun before : Tables)
    (part more : List Commit) (piece : Frame) (so : AreAppliedTo whole all pieces first begun before part) (below : first < pieces)
    (is : frame_of all 0 first ≡ Some piece) (left-of : new ≡ released all 0 first) (workers : length new ≡ length all)
    (pushed : more ≡ part ++ record { worker = 0; entries = waiting_entries piece.entries } ∷ []) where
  moved-now : AreMovedTo whole new pieces (first + 1) (so.done ++ more)
  moved-now =
      moved-more law whole all new pieces first (so.done ++ part) (so.done ++ more) piece so.moved below is left-of workers
      (ap (λ (l : List Commit). so.done ++ l) pushed
      ∙ sym (append_assoc so.done part (record { worker = 0; entries = waiting_entries piece.entries } ∷ [])))

  pub applied-more : (last : Bool) (room : ℕ) (now : Tables) (kept : List Commit) → last ≡ ((first + 1) == pieces)
      → IsPartDone last room before more now kept → AreAppliedTo whole new pieces (first + 1) begun now kept
  applied-more last room now kept is-it (inl (made, none)) = record {
    done = so.done ++ more;
    moved =
        subst (λ (l : List Commit). AreMovedTo whole new pieces (first + 1) l)
        (sym (append-nil (so.done ++ more)) ∙ ap (λ (l : List Commit). (so.done ++ more) ++ l) (sym none)) moved-now;
    made = apply-more begun before so.done more so.made ∙ made;
    rest = λ past. none;
  }
  applied-more last room now kept is-it (inr (same, stays, few, not)) = record {
    done = so.done;
    moved = subst (λ (l : List Commit). AreMovedTo whole new pieces (first + 1) (so.done ++ l)) (sym stays) moved-now;
    made = so.made ∙ ap Ok (sym same);
    rest = λ past. absurd (false≢true (sym not ∙ is-it ∙ is-last first pieces below past));
  }

  pub applied-fails : (fault : ApplyFault) (now some : Bool) → FailsAs now some (apply_commits before more) fault
      → fault ≡ applying.Inconsistent → IsErr (apply_commits begun (commits_in (frames_between whole 0 0 pieces)))
  applied-fails fault now some fails is =
      subst (λ (l : List Commit). IsErr (apply_commits begun l)) moved-now.moved
      (fails-more fault now some begun before so.done more (commits_in (rest_of new (first + 1) pieces)) so.made fails is)

  -- there is room for one more
  pub room-left : (last : Bool) (room : ℕ) (now : Tables) (kept : List Commit) → 0 < room
      → IsPartDone last room before more now kept → length kept < room
  room-left last room now kept some (inl (made, none)) = subst (λ (l : List Commit). length l < room) (sym none) some
  room-left last room now kept some (inr (same, stays, few, not)) = subst (λ (l : List Commit). length l < room) (sym stays) few

pub applied-ends : (whole all : List Arrivals) (pieces first : ℕ) (begun now : Tables) (part : List Commit)
    → AreAppliedTo whole all pieces first begun now part → pieces ≤ first
    → apply_commits begun (commits_in (frames_between whole 0 0 pieces)) ≡ Ok now
applied-ends whole all pieces first begun now part so past =
    ap (apply_commits begun)
    (sym (moved-ends whole all pieces first (so.done ++ part) so.moved past)
    ∙ ap (λ (l : List Commit). so.done ++ l) (so.rest past) ∙ append-nil so.done)
    ∙ so.made
