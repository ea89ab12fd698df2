-- The merge of many workers' frames: the commits that all of them hold, in the order of their numbers.
use Rattle.std.specs.Prelude.{◌≡◌, ℕ, ◌+◌, ◌<◌, ◌≤◌, List, [], ◌∷◌, ◌++◌, length, Bool, true, false, ◌==◌, slice_index}
use Rattle.std.specs.List.{flat_map, AllByRecursion}
use Rattle.rows.specs.declared.commit.Commit.{Commit}
use Rattle.rows.specs.declared.entry.Entry.{Entry}
use Rattle.rows.specs.Limits.{commit_entries_max}
use Rattle.update_log.specs.declared.frame.Frame.{Frame}
use Rattle.intake.specs.State.{Arrivals}
use Rattle.intake.specs.Kept.{frames_between}

-- the last frame is marked as such, and no other is
abbrev pub AreMarked : List Frame → Type 0
AreMarked [] = Unit {0}
AreMarked (frame ∷ frames) = (frame.last ≡ (length frames == 0)) × AreMarked frames

-- these frames, and no others, hold the commit of that number with these entries: each bears the number, the last one alone is
-- marked as such, and their entries join to the commit's, of which there are 1 to 4096
pub record HoldCommit (number : ℕ) (entries : List Entry) (frames : List Frame) : Type 0 where
  pub numbered : AllByRecursion (λ frame. frame.commit ≡ number) frames
  pub marked : AreMarked frames
  pub joined : flat_map (λ frame. frame.entries) frames ≡ entries
  pub some : 0 < length entries
  pub few : length entries ≤ commit_entries_max

-- a worker's frames of a commit: they hold it if it is the worker's own, and otherwise there are none
abbrev pub HoldIfOwn : Bool → ℕ → List Entry → List Frame → Type 0
HoldIfOwn true number entries frames = HoldCommit number entries frames
HoldIfOwn false number entries frames = frames ≡ []

-- a worker's frames are those of its own commits among these, which stand after `before` others: the frames of each stand
-- together, after those of the one before
abbrev pub HoldCommits : ℕ → ℕ → List Commit → List Frame → Type 0
HoldCommits worker before [] frames = frames ≡ []
HoldCommits worker before (commit ∷ commits) frames =
    (own : List Frame) × (rest : List Frame) × (frames ≡ own ++ rest)
    × HoldIfOwn (commit.worker == worker) (before + 1) commit.entries own
    × HoldCommits worker (before + 1) commits rest

-- and so for each worker, whose frames are given by its number
abbrev pub AreHeld : ℕ → List Commit → (ℕ → List Frame) → Type 0
AreHeld before commits frames = (worker : ℕ) → HoldCommits worker before commits (frames worker)

-- each worker's frames are those of its own commits among these, which stand after `before` others, and then the rest
abbrev pub HoldFirst : ℕ → List Commit → (ℕ → List Frame) → (ℕ → List Frame) → Type 0
HoldFirst before commits frames rest =
    (worker : ℕ) → (own : List Frame) × (frames worker ≡ own ++ rest worker) × HoldCommits worker before commits own

-- these are the commits `from` + 1 to `to` that the workers' frames hold, and the frames hold nothing else
pub record IsMerge (frames : ℕ → List Frame) (from to : ℕ) (commits : List Commit) : Type 0 where
  pub counted : from + length commits ≡ to
  pub held : AreHeld from commits frames

-- each worker's kept frames, from its low to before its high
abbrev pub frames_in : List Arrivals → List ℕ → List ℕ → ℕ → List Frame
frames_in all lows highs worker = frames_between all worker (slice_index lows worker) (slice_index highs worker)
