-- How far recovery has come, and how it goes on.
use Rattle.std.specs.Prelude.{◌≡◌, ℕ, ◌<◌, List, ◌++◌, Bool, true, false, Ok, IsOk}
use Rattle.std.specs.List.{AllByRecursion}
use Rattle.rows.specs.declared.commit.Commit.{Commit}
use Rattle.rows.specs.Commits.{IsCommit, apply_commits}
use Rattle.rows.specs.Shape.{Shape}
use Rattle.rows.specs.Tables.{Tables, opening, apply_entries}
use Rattle.journal.specs.declared.faults.JournalFault.{JournalFault}
use Rattle.journal.specs.declared.form.Form.{Form}
use Rattle.journal.specs.declared.form.Form.TheVariants.{New, Old, Marked}
use Rattle.journal.specs.declared.faults.JournalFault.TheVariants.{OtherHeader, Damaged, OutOfOrder, Illegal, Memory}
use Rattle.journal.specs.Inner.Presence.{PresenceState, IsPresenceOf, IsApplied}
use Rattle.journal.specs.Recovery.{HasRecord, HasForm, may_follow, IsRecordAt, IsDamaged, IsOutOfOrder}
use Rattle.journal.specs.Text.{record_of, journal_text}

-- a form of a text that has only its header: no mark was read
abbrev pub IsHeaderForm : Form → Type 0
IsHeaderForm New = Unit {0}
IsHeaderForm Old = Unit {0}
IsHeaderForm (Marked count) = ⊥

-- these commits were read, their text stands before the rest of the bytes, and they make these tables
pub record RecordsWereRead (form : Form) (workers : ℕ) (shape : Shape) (bytes : List ℕ) (commits : List Commit) (tables : Tables)
    (rest : List ℕ) : Type 0 where
  pub text : bytes ≡ journal_text form workers shape commits ++ rest
  pub formed : HasForm form commits
  pub each : AllByRecursion (IsCommit workers) commits
  pub records : AllByRecursion HasRecord commits
  pub defined : apply_commits (opening shape) commits ≡ Ok tables

-- these commits were read, and the rows of the tables that they make are those that are present
pub record HasCome (form : Form) (workers : ℕ) (shape : Shape) (bytes : List ℕ) (commits : List Commit) (present : PresenceState)
    (rest : List ℕ) : Type 0 where
  pub tables : Tables
  pub read : RecordsWereRead form workers shape bytes commits tables rest
  pub rows : IsPresenceOf tables present

-- a commit whose worker is there and whose entries are defined on the tables
abbrev pub IsDefinedOn : ℕ → Tables → Commit → Type 0
IsDefinedOn workers tables commit = (commit.worker < workers) × IsOk (apply_entries tables commit.entries)

-- whether a commit is legal on the tables; if it is, the rows that are present are those after it
abbrev pub IsAccepted : Bool → ℕ → Tables → PresenceState → Commit → Type 0
IsAccepted true workers tables present commit = (commit.worker < workers) × IsApplied true (apply_entries tables commit.entries) present
IsAccepted false workers tables present commit = ¬ IsDefinedOn workers tables commit

-- the next commit on the tables: its record stands before what is behind, and the rows that are present are those after it
pub record IsNextCommit (form : Form) (workers number : ℕ) (tables : Tables) (present : PresenceState) (rest : List ℕ) (commit : Commit)
    (behind : List ℕ) : Type 0 where
  pub front : rest ≡ record_of number commit ++ behind
  pub held : HasRecord commit
  pub follows : may_follow form commit ≡ true
  pub accepted : IsAccepted true workers tables present commit

-- a record by that number whose commit is not defined on the tables
pub record IsUndefined (form : Form) (workers number : ℕ) (tables : Tables) (rest : List ℕ) : Type 0 where
  pub commit : Commit
  pub there : IsRecordAt form rest number commit
  pub undefined : ¬ IsDefinedOn workers tables commit

-- why there is no next commit at an offset, of that number and on those tables
abbrev pub IsStop : Form → ℕ → ℕ → Tables → ℕ → List ℕ → JournalFault → Type 0
IsStop form workers number tables offset rest OtherHeader = ⊥
IsStop form workers number tables offset rest (Damaged at) = (at ≡ offset) × IsDamaged form rest
IsStop form workers number tables offset rest (OutOfOrder at) = (at ≡ offset) × IsOutOfOrder form number rest
IsStop form workers number tables offset rest (Illegal at) = (at ≡ offset) × IsUndefined form workers number tables rest
IsStop form workers number tables offset rest Memory = Unit {0}
