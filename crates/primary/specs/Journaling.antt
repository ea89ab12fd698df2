-- What stands on the journal of a primary, and what is left if a flush or a start is refused.
use Rattle.std.specs.Prelude.{◌≡◌, ℕ, ◌+◌, ◌<◌, ◌^◌, List, length, take, Bool, true, false, Option, None, is_some, Result, Err}
use Rattle.std.specs.Prelude.{MatchResult}
use Rattle.rows.specs.declared.commit.Commit.{Commit}
use Rattle.rows.specs.Shape.{Shape, shape_of}
use Rattle.update_log.specs.Streams.{stream_of}
use Rattle.journal.specs.declared.faults.JournalFault.{JournalFault}
use Rattle.journal.specs.declared.faults.JournalFault.TheVariants as journals
use Rattle.journal.specs.declared.form.Form.{Form}
use Rattle.journal.specs.declared.form.Form.TheVariants.{Old}
use Rattle.journal.specs.Text.{journal_text, records_from, started}
use Rattle.journal.specs.Recovery.{HasForm, IsRecovered, IsRefusal}
use Rattle.journal.specs.Storing.{IsPartlyAppended}
use Rattle.primary.specs.declared.faults.FlushFault.{FlushFault}
use Rattle.primary.specs.declared.faults.FlushFault.TheVariants as flushes
use Rattle.primary.specs.declared.faults.StartFault.{StartFault}
use Rattle.primary.specs.declared.faults.StartFault.TheVariants as starts
use Rattle.primary.specs.State.{Primary, Core, is_honest_in, standing_in, faults_in}
use Rattle.primary.specs.Steps.{failed_primary}

-- while it is there and honest and has not failed, the journal's bytes are the text of the durable list, in the journal's form
abbrev pub IsWritten : {J : Type 0} → (J → Bool) → (J → List ℕ) → Core J → Type 0
IsWritten is_honest standing core =
    is_honest_in is_honest core.journal ≡ true → core.primary.failed ≡ false
    → standing_in standing core.journal ≡ journal_text core.form core.primary.workers (shape_of core.primary.schema) core.primary.durable

-- the form of a primary's journal: of version 2 at its end, and one that the text of the durable list may have
pub record IsFormOf (form : Form) (durable : List Commit) : Type 0 where
  pub new : ¬ (form ≡ Old)
  pub has : HasForm form durable

-- the records that a flush of so many commits offers to the journal
abbrev pub offered : Primary → ℕ → List ℕ
offered p count = records_from (length p.durable) (take count p.pending)

-- a journal of which nothing that stands has changed, whatever room was made
pub record IsUnchanged {J : Type 0} (is_honest : J → Bool) (standing : J → List ℕ) (fault_count : J → ℕ) (old new : Option J) : Type 0 where
  pub there : is_some new ≡ is_some old
  pub honest : is_honest_in is_honest new ≡ is_honest_in is_honest old
  pub stands : is_honest_in is_honest old ≡ true → standing_in standing new ≡ standing_in standing old
  pub faults : faults_in fault_count new ≡ faults_in fault_count old

-- there is a commit to be moved, and the journal is there
abbrev pub IsOffering : {J : Type 0} → Core J → ℕ → Type 0
IsOffering core count = (core.primary.failed ≡ false) × (is_some core.journal ≡ true) × (0 < length (take count core.primary.pending))

-- why a flush of so many commits is refused, and what it leaves: the journal is written, and memory taken, only if there is a
-- commit to be moved
abbrev pub IsFlushRefusal : {J : Type 0} → Core J → ℕ → FlushFault → Primary → Type 0
IsFlushRefusal core count flushes.Failed after = (core.primary.failed ≡ true) × (after ≡ core.primary)
IsFlushRefusal core count flushes.Busy after = (core.primary.failed ≡ false) × (core.journal ≡ None) × (after ≡ core.primary)
IsFlushRefusal core count flushes.NotLent after = ⊥
IsFlushRefusal core count flushes.Memory after = IsOffering core count × (after ≡ core.primary)
IsFlushRefusal core count flushes.Journal after = IsOffering core count × (after ≡ failed_primary core.primary)

-- what stands if the journal did not take what it was offered: some beginning of that after the bytes that stood
abbrev pub StandsAfterFlush : FlushFault → List ℕ → List ℕ → List ℕ → Type 0
StandsAfterFlush flushes.Journal offered old new = IsPartlyAppended old offered new
StandsAfterFlush other offered old new = new ≡ old

-- a fault is counted if the journal did not take what it was offered; otherwise none is
abbrev pub CountsFlushFault : {A : Type 0} → Result A FlushFault → ℕ → ℕ → Type 0
CountsFlushFault (Err flushes.Journal) old new = new ≡ old + 1
CountsFlushFault other old new = new ≡ old

-- the commits that these bytes keep for the workers and the shape, and the form that a start makes of their text
abbrev pub IsKeptOf : ℕ → Shape → List ℕ → List Commit → Form → Type 0
IsKeptOf workers shape bytes commits form =
    (found : Form) × (bytes_kept : ℕ) × IsRecovered workers shape bytes found commits bytes_kept × (form ≡ started found (length commits))

-- the new bytes keep what the old ones keep, and are refused as they are
pub record KeepsSame (workers : ℕ) (shape : Shape) (old new : List ℕ) : Type 0 where
  pub kept : (commits : List Commit) (form : Form) → IsKeptOf workers shape old commits form → IsKeptOf workers shape new commits form
  pub refused : (fault : JournalFault) → IsRefusal workers shape old fault → IsRefusal workers shape new fault

-- why a start is refused: these bytes are refused, if they are the ones that stand; or the start is out of memory
abbrev pub IsStartRefusal : {F : Type 0} → ℕ → Shape → Bool → List ℕ → StartFault F → Type 0
IsStartRefusal workers shape is_honest bytes (starts.Journal fault) =
    ¬ (fault ≡ journals.Memory) × (is_honest ≡ true → IsRefusal workers shape bytes fault)
IsStartRefusal workers shape is_honest bytes other = Unit {0}

-- a start that is refused reports this fault of the bytes, unless the journal failed or it was out of memory
abbrev pub TellsFault : {F : Type 0} → JournalFault → StartFault F → Type 0
TellsFault fault (starts.Journal told) = told ≡ fault
TellsFault fault other = Unit {0}

-- if these bytes are refused, so is a start on them, and it reports their fault; being out of memory is no fault of bytes
abbrev pub TellsRefusal : {A J F : Type 0} → ℕ → Shape → List ℕ → Result A (J × StartFault F) → Type 0
TellsRefusal workers shape bytes result =
    (fault : JournalFault) → IsRefusal workers shape bytes fault → ¬ (fault ≡ journals.Memory)
    → MatchResult result (λ core. ⊥) (λ refusal. TellsFault fault refusal.1)

-- a start that is refused leaves the bytes as they were, unless they could not be truncated or written
abbrev pub LeavesBytes : {F : Type 0} → StartFault F → List ℕ → List ℕ → Type 0
LeavesBytes (starts.Store fault) old new = Unit {0}
LeavesBytes other old new = new ≡ old

-- a fault is counted if the journal could not be read, truncated or written; otherwise none is
abbrev pub CountsStartFault : {F : Type 0} → StartFault F → ℕ → ℕ → Type 0
CountsStartFault (starts.Store fault) old new = new ≡ old + 1
CountsStartFault other old new = new ≡ old

-- commits whose numbers are of 64 bits, and whose frames have seqs and counts of 64 bits
pub record AreNumbered (commits : List Commit) : Type 0 where
  pub commits_below : length commits < 2 ^ 64
  pub frames_below : (worker : ℕ) → length (stream_of commits worker) < 2 ^ 64
