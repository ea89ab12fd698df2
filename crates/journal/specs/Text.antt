-- The journal's text: a header, and a record for each commit, numbered from 1. All numbers are big-endian.
--
-- There are two versions of the text. Version 1 has no commit that adds a column. A journal of version 1 goes on as version 2 behind a
-- mark, so a text has one of three forms.
use Rattle.std.specs.Prelude.{ℕ, ◌+◌, List, [], ◌∷◌, ◌++◌, length, map, take, drop, ◌==◌, if◌then◌else◌}
use Rattle.std.specs.List.{flat_map}
use Rattle.byteorder.specs.Endian.{big_bytes}
use Rattle.rows.specs.declared.commit.Commit.{Commit}
use Rattle.rows.specs.declared.kind.Kind.{Kind}
use Rattle.rows.specs.Shape.{Shape}
use Rattle.rows.specs.Spelling.{kind_code, entry_spelling}
use Rattle.journal.specs.declared.form.Form.{Form}
use Rattle.journal.specs.declared.form.Form.TheVariants.{New, Old, Marked}

-- a table in the header: how many columns, and a byte for each
abbrev pub table_header : List Kind → List ℕ
table_header kinds = length kinds ∷ map kind_code kinds

-- the first bytes of each journal, in ASCII BDJ
abbrev pub journal_magic : List ℕ
journal_magic = 0x42 ∷ 0x44 ∷ 0x4a ∷ []

-- the version in the header, in ASCII 2 or 1
abbrev pub version_code : Form → ℕ
version_code New = 0x32
version_code Old = 0x31
version_code (Marked count) = 0x31

-- the version at the end of the text
abbrev pub version_of : Form → ℕ
version_of New = 2
version_of Old = 1
version_of (Marked count) = 2

-- the magic, the version, the number of workers, the number of tables, and the tables
abbrev pub header : Form → ℕ → Shape → List ℕ
header form workers shape = journal_magic ++ (version_code form ∷ workers ∷ length shape ∷ []) ++ flat_map table_header shape

-- a record after its length: the worker, the commit's number, how many entries, and the entries
abbrev pub record_body : ℕ → Commit → List ℕ
record_body number commit =
    (commit.worker ∷ []) ++ big_bytes 8 number ++ big_bytes 2 (length commit.entries) ++ flat_map entry_spelling commit.entries

-- a record: its length in four bytes, and its body
abbrev pub record_of : ℕ → Commit → List ℕ
record_of number commit = big_bytes 4 (length (record_body number commit)) ++ record_body number commit

-- the records of commits that stand after `before` others
abbrev pub records_from : ℕ → List Commit → List ℕ
records_from before [] = []
records_from before (commit ∷ commits) = record_of (before + 1) commit ++ records_from (before + 1) commits

-- the mark behind which a journal of version 1 goes on as version 2: a length of 0, which no record has
abbrev pub mark : List ℕ
mark = 0 ∷ 0 ∷ 0 ∷ 0 ∷ []

-- the records, with the mark behind the first `count` of them where there is one
abbrev pub marked_records : Form → List Commit → List ℕ
marked_records New commits = records_from 0 commits
marked_records Old commits = records_from 0 commits
marked_records (Marked count) commits = records_from 0 (take count commits) ++ (mark ++ records_from count (drop count commits))

-- the text of a list of commits
abbrev pub journal_text : Form → ℕ → Shape → List Commit → List ℕ
journal_text form workers shape commits = header form workers shape ++ marked_records form commits

-- the form that a start leaves of a text of so many commits: of version 2 at its end
abbrev pub started : Form → ℕ → Form
started New count = New
started Old count = Marked count
started (Marked at) count = Marked at

-- what a start writes behind a text
abbrev pub start_writes : Form → List ℕ
start_writes New = []
start_writes Old = mark
start_writes (Marked at) = []

-- what a start writes behind the kept bytes, for its workers and shape: where nothing is kept, a new header
abbrev pub missing_text : ℕ → Shape → Form → ℕ → List ℕ
missing_text workers shape form bytes_kept = if bytes_kept == 0 then header New workers shape else start_writes form
