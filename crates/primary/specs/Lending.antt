-- The journal while it is lent out for a write: a flush that has begun, what its write leaves, and how it ends.
use Rattle.std.specs.Prelude.{◌≡◌, ℕ, ◌+◌, List, ◌++◌, length, take, Bool, true, false, Some, Result, Ok, Err}
use Rattle.std.specs.Prelude.{is_some, if◌then◌else◌}
use Rattle.rows.specs.declared.commit.Commit.{Commit}
use Rattle.rows.specs.Shape.{shape_of}
use Rattle.journal.specs.declared.form.Form.{Form}
use Rattle.journal.specs.Recovery.{IsBeginning}
use Rattle.journal.specs.Storing.{IsPartlyAppended}
use Rattle.journal.specs.Text.{journal_text, records_from}
use Rattle.primary.specs.declared.faults.FlushFault.{FlushFault}
use Rattle.primary.specs.declared.faults.FlushFault.TheVariants.{Journal}
use Rattle.primary.specs.State.{Primary, Core, is_honest_in, standing_in, faults_in}
use Rattle.primary.specs.Steps.{flushed, failed_primary}
use Rattle.primary.specs.Journaling.{IsWritten, offered}

-- a flush that has begun: the journal, how many commits are offered to it, and their records
pub record Lent (J : Type 0) : Type 0 where
  pub journal : J
  pub count : ℕ
  pub records : List ℕ

-- a flush that was written: the journal, how many commits were offered to it, and whether it took them
pub record Returned (J : Type 0) : Type 0 where
  pub journal : J
  pub count : ℕ
  pub taken : Bool

-- what a primary lends for a flush of so many commits: its journal, with the bytes that stood there, and the records that are offered
pub record IsLentBy {J : Type 0} (is_honest : J → Bool) (standing : J → List ℕ) (fault_count : J → ℕ)
    (core : Core J) (count : ℕ) (lent : Lent J) : Type 0 where
  pub runs : core.primary.failed ≡ false
  pub there : is_some core.journal ≡ true
  pub offers : lent.count ≡ length (take count core.primary.pending)
  pub records : lent.records ≡ offered core.primary count
  pub honest : is_honest lent.journal ≡ is_honest_in is_honest core.journal
  pub stands : is_honest lent.journal ≡ true → standing lent.journal ≡ standing_in standing core.journal
  pub faults : fault_count lent.journal ≡ faults_in fault_count core.journal
  pub nothing : lent.count ≡ 0 → core.journal ≡ Some lent.journal

-- what a write leaves: the records stand after the bytes, or some beginning of them and one more fault is counted; if no commit
-- is offered, nothing is written
pub record IsWriteOf {J : Type 0} (is_honest : J → Bool) (standing : J → List ℕ) (fault_count : J → ℕ)
    (lent : Lent J) (done : Returned J) : Type 0 where
  pub count : done.count ≡ lent.count
  pub honest : is_honest done.journal ≡ is_honest lent.journal
  pub taken : is_honest lent.journal ≡ true → done.taken ≡ true → standing done.journal ≡ standing lent.journal ++ lent.records
  pub partly : is_honest lent.journal ≡ true → done.taken ≡ false
      → IsPartlyAppended (standing lent.journal) lent.records (standing done.journal)
  pub faults : fault_count done.journal ≡ (if done.taken then fault_count lent.journal else fault_count lent.journal + 1)
  pub nothing : lent.count ≡ 0 → (done.taken ≡ true) × (done.journal ≡ lent.journal)

-- a primary whose journal comes back: the commits that were offered are durable, or it has failed
abbrev pub ended : {J : Type 0} → Core J → Returned J → Core J
ended core done = record core {
  primary = if done.taken then flushed core.primary done.count else failed_primary core.primary;
  journal = Some done.journal;
}

-- what the end of a flush answers
abbrev pub end_answer : {J : Type 0} → Primary → Returned J → Result ℕ FlushFault
end_answer p done = if done.taken then Ok (length (flushed p done.count).durable) else Err Journal

-- a primary in which nothing has changed but that more is pending
abbrev pub HasMorePending : Primary → Primary → Type 0
HasMorePending old new = (more : List Commit) × (new ≡ record old { pending = old.pending ++ more })

-- a journal that was written before its flush began is written after it, whatever came between, if what comes back is what the
-- write left of this very flush
abbrev pub EndsWritten : {J : Type 0} → (J → Bool) → (J → List ℕ) → (J → ℕ) → Core J → Returned J → Core J → Type 0
EndsWritten {J = J} is_honest standing fault_count now done new =
    (begun : Core J) (count : ℕ) (lent : Lent J) → IsLentBy is_honest standing fault_count begun count lent
    → IsWriteOf is_honest standing fault_count lent done → HasMorePending begun.primary now.primary → begun.form ≡ now.form
    → IsWritten is_honest standing begun → IsWritten is_honest standing new

-- bytes that a stop may leave: the text of what is durable, and after it the first bytes of the pending commits' records
abbrev pub IsLeftByStop : Form → Primary → List ℕ → Type 0
IsLeftByStop form p bytes =
    (count : ℕ)
    × (bytes ≡ journal_text form p.workers (shape_of p.schema) p.durable ++ take count (records_from (length p.durable) p.pending))

-- a journal that was written when its flush began is what a stop may leave, whatever was committed meanwhile: before its write; within
-- it, when some beginning of the records stands after what stood; and after it
abbrev pub StopsAreAllowed : {J : Type 0} → (J → Bool) → (J → List ℕ) → (J → ℕ) → Lent J → Returned J → Type 0
StopsAreAllowed {J = J} is_honest standing fault_count lent done =
    (begun : Core J) (count : ℕ) (now : Primary) → IsLentBy is_honest standing fault_count begun count lent
    → IsWritten is_honest standing begun → HasMorePending begun.primary now → is_honest lent.journal ≡ true
    → IsLeftByStop begun.form now (standing lent.journal)
    × ((front : List ℕ) → IsBeginning front lent.records → IsLeftByStop begun.form now (standing lent.journal ++ front))
    × IsLeftByStop begun.form now (standing done.journal)
