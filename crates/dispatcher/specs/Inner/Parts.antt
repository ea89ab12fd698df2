-- Only for proofs: what the parts of a replica's calls answer and leave.
use Rattle.std.specs.Prelude.{◌≡◌, ℕ, ◌+◌, ◌<◌, List, [], length, Bool, false, Option, None, Some, Result, Ok, Err, IsOkAnd, ◌⊎◌}
use Rattle.rows.specs.declared.commit.Commit.{Commit}
use Rattle.rows.specs.Commits.{apply_commits}
use Rattle.rows.specs.Tables.{Tables, Refusal}
use Rattle.store.specs.declared.faults.ApplyFault.{ApplyFault}
use Rattle.store.specs.declared.faults.ApplyFault.TheVariants as applying
use Rattle.dispatcher.specs.declared.faults.CatchUpFault.{CatchUpFault}
use Rattle.dispatcher.specs.declared.faults.CatchUpFault.TheVariants.{Inconsistent, Memory, Broken}
use Rattle.dispatcher.specs.declared.outcome.Run.{Run}
use Rattle.dispatcher.specs.declared.outcome.Run.TheVariants as runs
use Rattle.dispatcher.specs.Inner.Merging.{Merging, GoesOnFrom}
use Rattle.dispatcher.specs.State.{Replica, Batch, Fetched}
use Rattle.dispatcher.specs.Report.{report_of}
use Rattle.dispatcher.specs.Steps.{broken_of, first_tables, to_apply, at_fetched, BatchFits, CaughtUp, CannotCatchUp}

-- what catching up answers and leaves: where it is out of memory before the first change, nothing has changed; where it is
-- so later, the replica is broken
abbrev pub CatchesUp : Replica → Fetched → Result (Unit {0}) CatchUpFault → Replica → Type 0
CatchesUp old fetched (Ok done) new = CaughtUp old fetched new
CatchesUp old fetched (Err Inconsistent) new = CannotCatchUp old fetched × (new ≡ broken_of old)
CatchesUp old fetched (Err Memory) new = new ≡ old
CatchesUp old fetched (Err Broken) new = (new ≡ broken_of old) × (old.version < fetched.version)

-- what it comes to that commits were applied: tables that the batch's queries fit
abbrev pub AreMade : Replica → Fetched → Result Tables Refusal → Replica → Type 0
AreMade old fetched made new = IsOkAnd made (λ tables. (new ≡ at_fetched old fetched tables) × BatchFits tables old.batch)

-- or none such
abbrev pub AreNotMade : Replica → Result Tables Refusal → Type 0
AreNotMade old made = IsOkAnd made (λ tables. BatchFits tables old.batch) → ⊥

-- what applying to these tables what a merge has taken, and the commits behind it, answers and leaves; it is not out of memory before
-- the first change
abbrev pub Applies : Replica → Fetched → Tables → Merging → Result (Unit {0}) CatchUpFault → Replica → Type 0
Applies old fetched tables merging (Ok done) new =
    (commits : List Commit) × GoesOnFrom merging fetched.version commits × AreMade old fetched (apply_commits tables commits) new
Applies old fetched tables merging (Err Inconsistent) new =
    ((commits : List Commit) → GoesOnFrom merging fetched.version commits → AreNotMade old (apply_commits tables commits))
    × (new ≡ broken_of old)
Applies old fetched tables merging (Err Memory) new = ⊥
Applies old fetched tables merging (Err Broken) new =
    (new ≡ broken_of old) × (merging.version < fetched.version + length merging.part)

-- what being at the fetched version with the tables as they are comes to: where a query of the batch does not fit them, the replica is
-- broken
abbrev pub Reaches : Replica → Fetched → Result (Unit {0}) CatchUpFault → Replica → Type 0
Reaches old fetched (Ok done) new = (new ≡ at_fetched old fetched old.tables) × BatchFits old.tables old.batch
Reaches old fetched (Err Inconsistent) new = (BatchFits old.tables old.batch → ⊥) × (new ≡ broken_of old)
Reaches old fetched (Err other) new = ⊥

-- what making the tables anew of an image and applying commits behind it answers and leaves: where there is no room for a part of the
-- pieces, nothing has changed
abbrev pub AppliesImage : Replica → Fetched → Merging → Result (Unit {0}) CatchUpFault → Replica → Type 0
AppliesImage old fetched merging (Ok done) new =
    (commits : List Commit) × GoesOnFrom merging fetched.version commits
    × AreMade old fetched (apply_commits (first_tables old fetched) (to_apply old fetched commits)) new
AppliesImage old fetched merging (Err Inconsistent) new =
    ((commits : List Commit) → GoesOnFrom merging fetched.version commits
    → AreNotMade old (apply_commits (first_tables old fetched) (to_apply old fetched commits))) × (new ≡ broken_of old)
AppliesImage old fetched merging (Err Memory) new = new ≡ old
AppliesImage old fetched merging (Err Broken) new = new ≡ broken_of old

-- what applying a part of some commits leaves: it is applied, and the list is empty; or it is not, since the list has room for more, and
-- the part is not the last
abbrev pub IsPartDone : Bool → (room : ℕ) → Tables → List Commit → Tables → List Commit → Type 0
IsPartDone is_last room before part now left =
    ((apply_commits before part ≡ Ok now) × (left ≡ []))
    ⊎ ((now ≡ before) × (left ≡ part) × (length part < room) × (is_last ≡ false))

-- why a replica did not catch up, where its store did not make all changes
abbrev pub fault_of : ApplyFault → CatchUpFault
fault_of applying.Inconsistent = Inconsistent
fault_of applying.Memory = Broken
fault_of applying.Broken = Broken

-- answering a batch on the tables as they are, which ends it
abbrev pub answered_by : Replica → Option Batch → Run × Replica
answered_by r None = (runs.NoBatch, r)
answered_by r (Some batch) = (runs.Answered (report_of r.tables r.version batch.plans), record r { batch = None })

-- what answering the batch answers and leaves: out of memory nothing has changed
abbrev pub MayAnswerBatch : Replica → Run → Replica → Type 0
MayAnswerBatch old answer new = ((answer ≡ runs.Memory) × (new ≡ old)) ⊎ (answered_by old old.batch ≡ (answer, new))
