-- Laws of the journal's text, and of what its bytes keep.
use Rattle.std.specs.Prelude.{◌≡◌, ◌⊎◌, ℕ, List, [], ◌++◌, length, take}
use Rattle.std.specs.List.{AllByRecursion}
use Rattle.rows.specs.declared.commit.Commit.{Commit}
use Rattle.rows.specs.Shape.{Shape}
use Rattle.journal.specs.declared.faults.JournalFault.{JournalFault}
use Rattle.journal.specs.declared.faults.JournalFault.TheVariants.{Memory}
use Rattle.journal.specs.declared.form.Form.{Form}
use Rattle.journal.specs.declared.form.Form.TheVariants.{New, Old}
use Rattle.journal.specs.Text.{header, records_from, journal_text, started, start_writes}
use Rattle.journal.specs.Recovery.{IsBeginning, HasRecord, HasForm, IsJournaled, IsTextIn, IsRecovered, IsRefusal}

-- a text is of one list of commits, and of one form
abbrev pub TextsAreOneToOne : Type 0
TextsAreOneToOne =
    (form other : Form) (workers : ℕ) (shape : Shape) (commits others : List Commit) → AllByRecursion HasRecord commits
    → AllByRecursion HasRecord others → HasForm form commits → HasForm other others
    → journal_text form workers shape commits ≡ journal_text other workers shape others → (form ≡ other) × (commits ≡ others)

-- of two lists whose texts begin the same bytes one begins the other
abbrev pub IsNested : Type 0
IsNested =
    (form other : Form) (workers : ℕ) (shape : Shape) (bytes : List ℕ) (commits others : List Commit)
    → IsTextIn form workers shape bytes commits → IsTextIn other workers shape bytes others
    → IsBeginning commits others ⊎ IsBeginning others commits

-- a text grows by the records of more commits
abbrev pub TextGrows : Type 0
TextGrows =
    (form : Form) (workers : ℕ) (shape : Shape) (commits more : List Commit) → HasForm form commits
    → journal_text form workers shape (commits ++ more) ≡ journal_text form workers shape commits ++ records_from (length commits) more

-- what a start writes behind a text makes it one of the form that it leaves
abbrev pub StartMarks : Type 0
StartMarks =
    (form : Form) (workers : ℕ) (shape : Shape) (commits : List Commit)
    → journal_text form workers shape commits ++ start_writes form
    ≡ journal_text (started form (length commits)) workers shape commits

-- and whatever such a text may be of, it may be of with more commits too
abbrev pub StartedGoesOn : Type 0
StartedGoesOn =
    (form : Form) (commits more : List Commit) → HasForm form commits → HasForm (started form (length commits)) (commits ++ more)

-- a journal may be of no commits
abbrev pub EmptyIsJournaled : Type 0
EmptyIsJournaled = (workers : ℕ) (shape : Shape) → IsJournaled workers shape []

-- and of each beginning of a list that it may be of
abbrev pub BeginningIsJournaled : Type 0
BeginningIsJournaled =
    (workers : ℕ) (shape : Shape) (front commits : List Commit) → IsJournaled workers shape commits → IsBeginning front commits
    → IsJournaled workers shape front

-- whatever a stop leaves of the text of a list that a journal may be of, the first commits of the list are recovered
abbrev pub StopsAreRecovered : Type 0
StopsAreRecovered =
    (form : Form) (workers : ℕ) (shape : Shape) (commits : List Commit) (bytes : List ℕ) → IsJournaled workers shape commits
    → HasForm form commits → IsBeginning bytes (journal_text form workers shape commits)
    → (kept : Form) × (count : ℕ) × (bytes_kept : ℕ) × IsRecovered workers shape bytes kept (take count commits) bytes_kept

-- whatever a start leaves of what it writes behind a text, the same commits are recovered, and the next start leaves the same form
abbrev pub StartsAgain : Type 0
StartsAgain =
    (form : Form) (workers : ℕ) (shape : Shape) (commits : List Commit) (front : List ℕ) → IsJournaled workers shape commits
    → HasForm form commits → IsBeginning front (start_writes form)
    → (kept : Form) × (bytes_kept : ℕ)
    × IsRecovered workers shape (journal_text form workers shape commits ++ front) kept commits bytes_kept
    × (started kept (length commits) ≡ started form (length commits))

-- and of a new header nothing is recovered
abbrev pub HeaderStartsAgain : Type 0
HeaderStartsAgain =
    (workers : ℕ) (shape : Shape) (bytes : List ℕ) → IsBeginning bytes (header New workers shape)
    → (bytes_kept : ℕ) × IsRecovered workers shape bytes New [] bytes_kept

-- bytes that begin with a text of version 2 are recovered as one of its form
abbrev pub FormStays : Type 0
FormStays =
    (form kept : Form) (workers : ℕ) (shape : Shape) (bytes : List ℕ) (commits others : List Commit) (bytes_kept : ℕ) → ¬ (form ≡ Old)
    → IsTextIn form workers shape bytes commits → IsRecovered workers shape bytes kept others bytes_kept → kept ≡ form

-- bytes are recovered in one way
abbrev pub IsRecoveredOnce : Type 0
IsRecoveredOnce =
    (form other : Form) (workers : ℕ) (shape : Shape) (bytes : List ℕ) (commits others : List Commit) (bytes_kept other_kept : ℕ)
    → IsRecovered workers shape bytes form commits bytes_kept → IsRecovered workers shape bytes other others other_kept
    → (form ≡ other) × (commits ≡ others) × (bytes_kept ≡ other_kept)

-- bytes that are recovered are not refused, being out of memory aside
abbrev pub IsNotRefused : Type 0
IsNotRefused =
    (form : Form) (workers : ℕ) (shape : Shape) (bytes : List ℕ) (commits : List Commit) (bytes_kept : ℕ) (fault : JournalFault)
    → IsRecovered workers shape bytes form commits bytes_kept → ¬ (fault ≡ Memory) → ¬ IsRefusal workers shape bytes fault

-- bytes are refused in one way, being out of memory aside
abbrev pub IsRefusedOnce : Type 0
IsRefusedOnce =
    (workers : ℕ) (shape : Shape) (bytes : List ℕ) (fault other : JournalFault) → IsRefusal workers shape bytes fault
    → IsRefusal workers shape bytes other → ¬ (fault ≡ Memory) → ¬ (other ≡ Memory) → fault ≡ other
