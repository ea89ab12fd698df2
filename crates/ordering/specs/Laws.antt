-- Laws of merging.
use Rattle.std.specs.Prelude.{◌≡◌, ℕ, ◌+◌, ◌≤◌, List, ◌++◌, length}
use Rattle.std.specs.List.{AllByRecursion}
use Rattle.rows.specs.declared.commit.Commit.{Commit}
use Rattle.rows.specs.Commits.{IsCommit}
use Rattle.update_log.specs.declared.frame.Frame.{Frame}
use Rattle.intake.specs.State.{Arrivals}
use Rattle.intake.specs.Kept.{AreAllKept}
use Rattle.intake.specs.Streams.{AreFrom}
use Rattle.ordering.specs.Merging.{HoldFirst, IsMerge, frames_in}
use Rattle.ordering.specs.Cutting.{AreFrameCounts, commits_between, frames_cut}

-- frames hold one list of commits at the most
abbrev pub MergeIsUnique : Type 0
MergeIsUnique = (frames : ℕ → List Frame) (from to : ℕ) (commits others : List Commit) → IsMerge frames from to commits
    → IsMerge frames from to others → commits ≡ others

-- what frames hold first, and what the rest holds first behind that, they hold first together
abbrev pub PartsJoin : Type 0
PartsJoin = (frames rest last : ℕ → List Frame) (from mid : ℕ) (commits more : List Commit) → from + length commits ≡ mid
    → HoldFirst from commits frames rest → HoldFirst mid more rest last → HoldFirst from (commits ++ more) frames last

-- what frames hold first, and a merge of the rest behind that, are together a merge of all
abbrev pub PartBeginsMerge : Type 0
PartBeginsMerge = (frames rest : ℕ → List Frame) (from mid to : ℕ) (commits more : List Commit) → from + length commits ≡ mid
    → HoldFirst from commits frames rest → IsMerge rest mid to more → IsMerge frames from to (commits ++ more)

-- and a merge of all begins with what the frames hold first, behind which it is a merge of the rest
abbrev pub MergeBeginsWithPart : Type 0
MergeBeginsWithPart = (frames rest : ℕ → List Frame) (from mid to : ℕ) (commits all : List Commit) → from + length commits ≡ mid
    → mid ≤ to → HoldFirst from commits frames rest → IsMerge frames from to all
    → (more : List Commit) × (all ≡ commits ++ more) × IsMerge rest mid to more

-- the merge of frames that were cut from commits is these commits
abbrev pub CutFramesMerge : Type 0
CutFramesMerge = (workers : ℕ) (commits : List Commit) (from to : ℕ) → AllByRecursion (IsCommit workers) commits → from ≤ to
    → to ≤ length commits → IsMerge (frames_cut commits from to) from to (commits_between commits from to)

-- and so is that of kept frames, if all that has come is of the streams of commits, and they are counted
abbrev pub KeptFramesMerge : Type 0
KeptFramesMerge = (workers : ℕ) (all : List Arrivals) (commits : List Commit) (from to : ℕ) (lows highs : List ℕ)
    → AllByRecursion (IsCommit workers) commits → from ≤ to → to ≤ length commits → AreFrom commits all → AreAllKept all lows highs
    → AreFrameCounts commits from lows → AreFrameCounts commits to highs
    → IsMerge (frames_in all lows highs) from to (commits_between commits from to)
