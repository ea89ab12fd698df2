-- What every primary keeps of its parts: each commit is one that a record and frames hold, the frames are those of the
-- commits behind the base, the pieces are those of the base, and the journal can count a fault.
use Rattle.std.specs.Prelude.{◌≡◌, ℕ, ◌<◌, ◌≤◌, List, [], length, map, true, false, is_some}
use Rattle.std.specs.List.{AllByRecursion}
use Rattle.rows.specs.Commits.{IsCommit}
use Rattle.rows.specs.Limits.{workers_max}
use Rattle.rows.specs.Shape.{shape_of}
use Rattle.mvcc.specs.VersionList.{VersionList}
use Rattle.journal.specs.Recovery.{HasRecord}
use Rattle.journal.specs.Storing.{faults_max}
use Rattle.wire.specs.Spelling.{spelling}
use Rattle.primary.specs.Journaling.{IsFormOf, AreNumbered}
use Rattle.primary.specs.Sending.{pieces_of_base}
use Rattle.primary.specs.State.{Core, faults_in}
use Rattle.primary.specs.Lending.{Lent}
use Rattle.primary.specs.declared.tail.Tail.{Tail}
use Rattle.primary.specs.Inner.Tail.{IsTailOf}

pub record AreLists (versions : VersionList) (tail : Tail) (pieces : List (List ℕ)) (durable workers : ℕ) : Type 0 where
  pub some_workers : 0 < workers
  pub few_workers : workers ≤ workers_max
  pub within : durable ≤ length versions.commits
  pub based : tail.base ≤ durable
  pub numbered : AreNumbered versions.commits
  pub each : AllByRecursion (IsCommit workers) versions.commits
  pub records : AllByRecursion HasRecord versions.commits
  pub framed : IsTailOf tail versions.commits
  pub spelled : pieces ≡ map spelling (pieces_of_base (shape_of versions.schema) versions.commits tail.base)

-- until it fails, a journal that is there can count one fault more, so that it may be appended to; where it failed it is there. The
-- text of what is durable may have its form
pub record KeepsJournal {J : Type 0} (fault_count : J → ℕ) (core : Core J) : Type 0 where
  pub countable : core.primary.failed ≡ false → faults_in fault_count core.journal < faults_max
  pub there : core.primary.failed ≡ true → is_some core.journal ≡ true
  pub form : IsFormOf core.form core.primary.durable

-- a flush that has begun can be written: there is room for what it offers, and one fault more can be counted
pub record CanBeWritten {J : Type 0} (room fault_count : J → ℕ) (lent : Lent J) : Type 0 where
  pub countable : fault_count lent.journal < faults_max
  pub fits : 0 < lent.count → length lent.records ≤ room lent.journal
  pub nothing : lent.count ≡ 0 → lent.records ≡ []
