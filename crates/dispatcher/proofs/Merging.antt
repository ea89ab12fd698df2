-- The commits of a merge, applied part by part.
use Rattle.std.proofs.Common.{◌≡◌, ℕ, ◌+◌, ◌<◌, ◌≤◌, Bool, true, List, [], ◌∷◌, ◌++◌, length, Result, Ok, Err}
use Rattle.std.proofs.Common.{refl, sym, ap, subst, ◌∙◌, arith}
use Rattle.std.proofs.Common.{length-append}
use Rattle.std.specs.Prelude.{IsErr}
use Rattle.std.proofs.lemmas.Bool.{false≢true}
use Rattle.std.proofs.lemmas.List.{append_assoc, append-nil}
use Rattle.rows.specs.declared.commit.Commit.{Commit}
use Rattle.rows.specs.Commits.{apply_commits}
use Rattle.rows.specs.Tables.{Tables, Refusal, and_then}
use Rattle.store.specs.declared.faults.ApplyFault.{ApplyFault}
use Rattle.store.specs.declared.faults.ApplyFault.TheVariants as applying
use Rattle.store.specs.Faults.{FailsAs, have_entries}
use Rattle.update_log.specs.declared.frame.Frame.{Frame}
use Rattle.ordering.specs.Laws.{PartsJoin, PartBeginsMerge, MergeBeginsWithPart}
use Rattle.ordering.specs.Merging.{HoldFirst, IsMerge}
use Rattle.dispatcher.specs.declared.faults.CatchUpFault.TheVariants.{Inconsistent, Broken}
use Rattle.dispatcher.specs.Inner.Merging.{Merging, IsBegun, GoesOnFrom, MergeApplies}
use Rattle.dispatcher.specs.Inner.Parts.{fault_of}
use Rattle.dispatcher.proofs.Parting.{apply-more, refused-first}
use Rattle.dispatcher.proofs.Versions.{apply_commits-append}

-- commits with an entry are not none
some-commits : (commits : List Commit) → have_entries commits ≡ true → 0 < length commits
some-commits [] h = absurd (false≢true h)
some-commits (commit ∷ commits) h = omega arith

-- ---- what a merge that is begun goes on with

-- a merge of all frames
pub begun-merge : PartBeginsMerge → (frames : ℕ → List Frame) (from to : ℕ) (merging : Merging) (commits : List Commit)
    → IsBegun frames from merging → GoesOnFrom merging to commits → IsMerge frames from to commits
begun-merge law frames from to merging commits begun goes =
    subst (IsMerge frames from to) (sym goes.1)
    (law frames merging.left from merging.version to merging.part goes.0 begun.counted begun.held goes.2)

-- and each merge of all frames is such a one
pub merge-begun : MergeBeginsWithPart → (frames : ℕ → List Frame) (from to : ℕ) (merging : Merging) (commits : List Commit)
    → IsBegun frames from merging → merging.version ≤ to → IsMerge frames from to commits → GoesOnFrom merging to commits
merge-begun law frames from to merging commits begun up merge =
    law frames merging.left from merging.version to merging.part commits begun.counted up begun.held merge

-- ---- part by part

-- the commits that a merge has taken since it was so far are applied, but for the part that was taken last
pub record AreTaken (first merging : Merging) (begun now : Tables) : Type 0 where
  pub done : List Commit
  pub since : List Commit
  pub whole : done ++ merging.part ≡ first.part ++ since
  pub counted : first.version + length since ≡ merging.version
  pub held : HoldFirst first.version since first.left merging.left
  pub made : apply_commits begun done ≡ Ok now

pub taken-begins : (first : Merging) (tables : Tables) → AreTaken first first tables tables
taken-begins first tables = record {
  done = [];
  since = [];
  whole = sym (append-nil first.part);
  counted = omega arith;
  held = λ worker. ([], refl, refl);
  made = refl;
}

-- the last part is applied, and one more is taken
pub taken-more : PartsJoin → (first merging next : Merging) (begun before now : Tables) → AreTaken first merging begun before
    → apply_commits before merging.part ≡ Ok now → IsBegun merging.left merging.version next → AreTaken first next begun now
taken-more law first merging next begun before now so made taken = record {
  done = so.done ++ merging.part;
  since = so.since ++ next.part;
  whole =
      ap (λ (l : List Commit). l ++ next.part) so.whole ∙ append_assoc first.part so.since next.part;
  counted = omega (arith, so.counted, taken.counted, length-append so.since next.part);
  held =
      law first.left merging.left next.left first.version merging.version so.since next.part so.counted so.held taken.held;
  made = apply-more begun before so.done merging.part so.made ∙ made;
}

-- ---- where it ends, and where it stops

module _ (first merging : Merging) (to : ℕ) (begun before : Tables) (so : AreTaken first merging begun before) where
  -- all is taken, and the last part is applied
  pub taken-ends : PartBeginsMerge → (now : Tables) → merging.version ≡ to → IsMerge merging.left to to []
      → apply_commits before merging.part ≡ Ok now → MergeApplies first to begun (Ok tt) now
  taken-ends law now is end made = (
    first.part ++ (so.since ++ []),
    (
      so.since ++ [],
      refl,
      law first.left merging.left first.version to to so.since [] (so.counted ∙ is) so.held end,
    ),
    ap (λ (l : List Commit). apply_commits begun (first.part ++ l)) (append-nil so.since)
        ∙ ap (apply_commits begun) (sym so.whole)
        ∙ apply-more begun before so.done merging.part so.made
        ∙ made,
  )

  -- what the merge was to go on with begins with what was taken, and it goes on with the rest
  still-goes-on : MergeBeginsWithPart → merging.version ≤ to → (commits : List Commit) → GoesOnFrom first to commits
      → (more : List Commit) × (commits ≡ (so.done ++ merging.part) ++ more) × IsMerge merging.left merging.version to more
  still-goes-on law up commits goes =
      let behind = law first.left merging.left first.version merging.version to so.since goes.0 so.counted up so.held goes.2 in (
        behind.0,
        goes.1
            ∙ ap (λ (l : List Commit). first.part ++ l) behind.1
            ∙ sym (append_assoc first.part so.since behind.0)
            ∙ ap (λ (l : List Commit). l ++ behind.0) (sym so.whole),
        behind.2,
      )

  -- the part that was taken last was not applied
  pub taken-fails : MergeBeginsWithPart → merging.version ≤ to → (fault : ApplyFault) (whole : Bool) (now : Tables) → whole ≡ true
      → FailsAs whole (have_entries merging.part) (apply_commits before merging.part) fault
      → MergeApplies first to begun (Err (fault_of fault)) now
  taken-fails law up applying.Inconsistent whole now is-whole fails = λ commits goes.
      let rest = still-goes-on law up commits goes in
      subst (λ (made : Result Tables Refusal). IsErr made)
      (sym (ap (apply_commits begun) rest.1
      ∙ apply_commits-append begun (so.done ++ merging.part) rest.0
      ∙ ap (and_then (λ after. apply_commits after rest.0)) (apply-more begun before so.done merging.part so.made)))
      (refused-first (λ after. apply_commits after rest.0) (apply_commits before merging.part) fails.1)
  taken-fails law up applying.Memory whole now is-whole fails = omega (
    arith,
    up,
    some-commits merging.part fails.1,
    so.counted,
    ap length so.whole,
    length-append so.done merging.part,
    length-append first.part so.since,
  )
  taken-fails law up applying.Broken whole now is-whole fails = absurd (false≢true (sym fails ∙ is-whole))

  -- what is left holds no commits
  pub taken-stops : MergeBeginsWithPart → merging.version ≤ to → (now : Tables)
      → ((commits : List Commit) → IsMerge merging.left merging.version to commits → ⊥)
      → MergeApplies first to begun (Err Inconsistent) now
  taken-stops law up now none commits goes = (let rest = still-goes-on law up commits goes in absurd (none rest.0 rest.2))

  -- there is no memory for more
  pub taken-starves : merging.version < to → (now : Tables) → MergeApplies first to begun (Err Broken) now
  taken-starves below now = omega (arith, below, so.counted)
