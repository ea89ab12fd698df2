-- How far the frames of a commit have come, and where a merge stops.
use Rattle.std.specs.Prelude.{◌≡◌, ℕ, ◌≤◌, List, [], ◌∷◌, ◌++◌, length, Bool, false, ◌==◌}
use Rattle.std.specs.List.{flat_map, AllByRecursion}
use Rattle.rows.specs.declared.commit.Commit.{Commit}
use Rattle.rows.specs.declared.entry.Entry.{Entry}
use Rattle.rows.specs.Limits.{commit_entries_max}
use Rattle.update_log.specs.declared.frame.Frame.{Frame}
use Rattle.ordering.specs.Merging.{HoldCommit, AreHeld}

-- whether the first of the frames bears that number
abbrev pub is_first_numbered : ℕ → List Frame → Bool
is_first_numbered number [] = false
is_first_numbered number (frame ∷ frames) = frame.commit == number

-- these frames hold these entries of the commit of that number, and more are to come
pub record IsCommitBegun (number : ℕ) (entries : List Entry) (frames : List Frame) : Type 0 where
  pub numbered : AllByRecursion (λ frame. frame.commit ≡ number) frames
  pub unmarked : AllByRecursion (λ frame. frame.last ≡ false) frames
  pub joined : flat_map (λ frame. frame.entries) frames ≡ entries
  pub few : length entries ≤ commit_entries_max

-- no first frames of these hold the commit of that number
abbrev pub HoldNone : ℕ → List Frame → Type 0
HoldNone number frames = (entries : List Entry) (own rest : List Frame) → frames ≡ own ++ rest → HoldCommit number entries own → ⊥

-- the frames that are left hold no list with one more commit
abbrev pub IsStuck : ℕ → (ℕ → List Frame) → Type 0
IsStuck before left = (other : Commit) (more : List Commit) → AreHeld before (other ∷ more) left → ⊥
