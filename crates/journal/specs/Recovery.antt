-- Which commits the bytes of a journal keep, whatever a stop left of them, and why bytes are refused.
--
-- Kept is the longest text that a journal may have and that begins the bytes. What stands after it is nothing, or what a stop left of
-- a record or of the mark; anything else is refused, by what it is.
use Rattle.std.specs.Prelude.{◌≡◌, ◌⊎◌, ℕ, ◌+◌, ◌*◌, ◌^◌, ◌<◌, ◌≤◌, List, [], ◌∷◌, ◌++◌, length, drop, nat_lt}
use Rattle.std.specs.Prelude.{Bool, true, false, not, ◌&&◌, ◌||◌, take, is_some}
use Rattle.std.specs.List.{AllByRecursion, list_all}
use Rattle.byteorder.specs.Endian.{big_number}
use Rattle.rows.specs.declared.commit.Commit.{Commit}
use Rattle.rows.specs.Commits.{IsLegal}
use Rattle.rows.specs.Entries.{row_of}
use Rattle.rows.specs.Limits.{row_width_max, commit_entries_max}
use Rattle.rows.specs.Shape.{Shape}
use Rattle.rows.specs.Spelling.{HasSpelling}
use Rattle.journal.specs.declared.faults.JournalFault.{JournalFault}
use Rattle.journal.specs.declared.faults.JournalFault.TheVariants.{OtherHeader, Damaged, OutOfOrder, Illegal, Memory}
use Rattle.journal.specs.declared.form.Form.{Form}
use Rattle.journal.specs.declared.form.Form.TheVariants.{New, Old, Marked}
use Rattle.journal.specs.Text.{header, record_of, journal_text}

-- one list is the beginning of another
abbrev pub IsBeginning : {X : Type 0} → List X → List X → Type 0
IsBeginning {X = X} front list = (more : List X) × (list ≡ front ++ more)

-- a commit that a record can hold: it has 1 to 4096 entries, each with a spelling
pub record HasRecord (commit : Commit) : Type 0 where
  pub some : 0 < length commit.entries
  pub few : length commit.entries ≤ commit_entries_max
  pub spelled : AllByRecursion HasSpelling commit.entries

-- a list of commits that a journal may be of: it is legal, and a record can hold each
pub record IsJournaled (workers : ℕ) (shape : Shape) (commits : List Commit) : Type 0 where
  pub legal : IsLegal shape workers commits
  pub records : AllByRecursion HasRecord commits

-- a commit that version 1 has: each entry is of a row, so none adds a column
abbrev pub is_old : Commit → Bool
is_old commit = list_all (λ entry. is_some (row_of entry)) commit.entries

-- whether a text of that form may have these commits: version 1 has none that adds a column, and the mark stands behind some of them
abbrev pub HasForm : Form → List Commit → Type 0
HasForm New commits = Unit {0}
HasForm Old commits = list_all is_old commits ≡ true
HasForm (Marked count) commits = (count ≤ length commits) × (list_all is_old (take count commits) ≡ true)

-- a text that a journal may have, and that begins the bytes
pub record IsTextIn (form : Form) (workers : ℕ) (shape : Shape) (bytes : List ℕ) (commits : List Commit) : Type 0 where
  pub journaled : IsJournaled workers shape commits
  pub formed : HasForm form commits
  pub text : IsBeginning (journal_text form workers shape commits) bytes

-- the kept commits, and the form of their text: the longest such text
pub record IsKept (form : Form) (workers : ℕ) (shape : Shape) (bytes : List ℕ) (commits : List Commit) : Type 0 where
  pub is : IsTextIn form workers shape bytes commits
  pub longest : (other : Form) (others : List Commit) → IsTextIn other workers shape bytes others
      → length (journal_text other workers shape others) ≤ length (journal_text form workers shape commits)

-- the kept commits, with the offset after their text
abbrev pub IsKeptUpTo : Form → ℕ → Shape → List ℕ → List Commit → ℕ → Type 0
IsKeptUpTo form workers shape bytes commits offset =
    IsKept form workers shape bytes commits × (offset ≡ length (journal_text form workers shape commits))

-- how many bytes an entry takes: at least an added column of one byte, or a delete in version 1; at most an insert of the widest row
abbrev pub entry_len_min : Form → ℕ
entry_len_min Old = 1 + 1 + 8
entry_len_min New = 1 + 1 + 1 + 1
entry_len_min (Marked count) = 1 + 1 + 1 + 1

abbrev pub entry_len_max : ℕ
entry_len_max = 1 + 1 + 8 + 2 + row_width_max

-- how many bytes of a record stand between its length and its entries: the worker, the number, and how many entries
abbrev pub record_front_len : ℕ
record_front_len = 1 + 8 + 2

-- how many bytes a record takes after its length, at the end of a text of that form: at least one of the shortest entries, at most 4096
-- of the longest
abbrev pub record_len_min : Form → ℕ
record_len_min form = record_front_len + entry_len_min form

abbrev pub record_len_max : ℕ
record_len_max = record_front_len + commit_entries_max * entry_len_max

-- whether a record may have this length
abbrev pub is_record_len : Form → ℕ → Bool
is_record_len form len = not (nat_lt len (record_len_min form)) && not (nat_lt record_len_max len)

-- whether a stop may have left these bytes at the end of a text of that form: fewer than a length or the mark takes, or fewer than a
-- length that a record may have; what they hold is not looked at
abbrev pub is_torn : Form → List ℕ → Bool
is_torn form bytes =
    nat_lt (length bytes) 4 || (is_record_len form (big_number 4 bytes) && nat_lt (length bytes) (4 + big_number 4 bytes))

-- whether a commit may stand at the end of a text of that form
abbrev pub may_follow : Form → Commit → Bool
may_follow New commit = true
may_follow Old commit = is_old commit
may_follow (Marked count) commit = true

-- the record of that commit, by that number, stands at the front of the bytes, at the end of a text of that form
pub record IsRecordAt (form : Form) (bytes : List ℕ) (number : ℕ) (commit : Commit) : Type 0 where
  pub numbered : number < 2 ^ 64
  pub held : HasRecord commit
  pub follows : may_follow form commit ≡ true
  pub front : IsBeginning (record_of number commit) bytes

-- neither torn nor the record of any commit
pub record IsDamaged (form : Form) (bytes : List ℕ) : Type 0 where
  pub whole : is_torn form bytes ≡ false
  pub none : (number : ℕ) (commit : Commit) → ¬ IsRecordAt form bytes number commit

-- the record of a commit by another number than the next
pub record IsOutOfOrder (form : Form) (next : ℕ) (bytes : List ℕ) : Type 0 where
  pub number : ℕ
  pub commit : Commit
  pub there : IsRecordAt form bytes number commit
  pub other : ¬ (number ≡ next)

-- the record, by the next number, of a commit that is not legal after the others
pub record IsIllegal (form : Form) (workers : ℕ) (shape : Shape) (commits : List Commit) (bytes : List ℕ) : Type 0 where
  pub commit : Commit
  pub there : IsRecordAt form bytes (length commits + 1) commit
  pub illegal : ¬ IsLegal shape workers (commits ++ commit ∷ [])

-- the bytes begin with a header, of either version
abbrev pub HasHeader : ℕ → Shape → List ℕ → Type 0
HasHeader workers shape bytes = (form : Form) × IsBeginning (header form workers shape) bytes

-- the bytes end within a header, of either version
abbrev pub EndsInHeader : ℕ → Shape → List ℕ → Type 0
EndsInHeader workers shape bytes =
    (form : Form) × IsBeginning bytes (header form workers shape) × (length bytes < length (header form workers shape))

-- what is recovered of bytes: the form of the text, its commits, and how many of the bytes are kept. Where they end within a header,
-- nothing is kept, and version 2 begins anew
abbrev pub IsRecovered : ℕ → Shape → List ℕ → Form → List Commit → ℕ → Type 0
IsRecovered workers shape bytes form commits bytes_kept =
    (EndsInHeader workers shape bytes × (form ≡ New) × (commits ≡ []) × (bytes_kept ≡ 0))
    ⊎ (IsKeptUpTo form workers shape bytes commits bytes_kept × (is_torn form (drop bytes_kept bytes) ≡ true))

-- why bytes are refused; recovery can be out of memory only on bytes that begin with a header
abbrev pub IsRefusal : ℕ → Shape → List ℕ → JournalFault → Type 0
IsRefusal workers shape bytes OtherHeader = ¬ HasHeader workers shape bytes × ¬ EndsInHeader workers shape bytes
IsRefusal workers shape bytes (Damaged offset) =
    (form : Form) × (commits : List Commit) × IsKeptUpTo form workers shape bytes commits offset × IsDamaged form (drop offset bytes)
IsRefusal workers shape bytes (OutOfOrder offset) =
    (form : Form) × (commits : List Commit) × IsKeptUpTo form workers shape bytes commits offset
    × IsOutOfOrder form (length commits + 1) (drop offset bytes)
IsRefusal workers shape bytes (Illegal offset) =
    (form : Form) × (commits : List Commit) × IsKeptUpTo form workers shape bytes commits offset
    × IsIllegal form workers shape commits (drop offset bytes)
IsRefusal workers shape bytes Memory = HasHeader workers shape bytes
