-- A merge of which some commits were taken, and what applying those that are still to be applied comes to.
use Rattle.std.specs.Prelude.{◌≡◌, ℕ, ◌+◌, ◌<◌, ◌≤◌, List, [], ◌++◌, length, vec_capacity, Result, Ok, Err, IsErr}
use Rattle.rows.specs.declared.commit.Commit.{Commit}
use Rattle.rows.specs.Commits.{apply_commits}
use Rattle.rows.specs.Limits.{workers_max}
use Rattle.rows.specs.Tables.{Tables}
use Rattle.update_log.specs.declared.frame.Frame.{Frame}
use Rattle.intake.specs.Kept.{AreAllKept}
use Rattle.intake.specs.State.{Arrivals}
use Rattle.ordering.specs.Merging.{HoldFirst, IsMerge, frames_in}
use Rattle.dispatcher.specs.declared.faults.CatchUpFault.{CatchUpFault}
use Rattle.dispatcher.specs.declared.faults.CatchUpFault.TheVariants.{Inconsistent, Memory, Broken}
use Rattle.dispatcher.specs.declared.merge.Merge.{Merge}

-- the frames that are left of it, the version of the commits that were taken, and those that were taken last
pub record Merging : Type 0 where
  pub left : ℕ → List Frame
  pub version : ℕ
  pub part : List Commit

-- a merge of frames up to these counts
abbrev pub merging_of : List Arrivals → List ℕ → Merge → Merging
merging_of all counts merge =
    record { left = frames_in all merge.at.items counts; version = merge.version; part = merge.part.items }

-- what makes that it can go on to a version: the frames that are left are kept; where it is there, none is left; and where it is not, it
-- has taken a part
pub record CanGoOn (all : List Arrivals) (counts : List ℕ) (to : ℕ) (merge : Merge) : Type 0 where
  pub each : length merge.at.items ≡ length counts
  pub workers : length merge.at.items ≤ workers_max
  pub kept : AreAllKept all merge.at.items counts
  pub within : merge.version ≤ to
  pub end : merge.version ≡ to → IsMerge (frames_in all merge.at.items counts) to to []
  pub room : 0 < vec_capacity merge.part

-- it has taken its first part of these frames, from a version on
pub record IsBegun (frames : ℕ → List Frame) (from : ℕ) (merging : Merging) : Type 0 where
  pub counted : from + length merging.part ≡ merging.version
  pub held : HoldFirst from merging.part frames merging.left

-- these commits are those that it took last, and then a merge of what is left up to a version
abbrev pub GoesOnFrom : Merging → ℕ → List Commit → Type 0
GoesOnFrom merging to commits =
    (more : List Commit) × (commits ≡ merging.part ++ more) × IsMerge merging.left merging.version to more

-- what applying these to tables answers and leaves: they are applied; or there are no such commits that could be; or it is out of
-- memory, where there was a commit to apply
abbrev pub MergeApplies : Merging → ℕ → Tables → Result (Unit {0}) CatchUpFault → Tables → Type 0
MergeApplies merging to before (Ok done) now =
    (commits : List Commit) × GoesOnFrom merging to commits × (apply_commits before commits ≡ Ok now)
MergeApplies merging to before (Err Inconsistent) now =
    (commits : List Commit) → GoesOnFrom merging to commits → IsErr (apply_commits before commits)
MergeApplies merging to before (Err Memory) now = ⊥
MergeApplies merging to before (Err Broken) now = merging.version < to + length merging.part
