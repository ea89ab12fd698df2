-- Laws of lists of commits and of entries: when one is defined, which parts of it are, and what of a row it leaves.
use Rattle.std.specs.Prelude.{◌≡◌, ℕ, ◌<◌, ◌≤◌, List, [], ◌∷◌, ◌++◌, length, take, None, Ok, ◌&&◌, true, false, is_ok}
use Rattle.std.specs.List.{AllByRecursion}
use Rattle.rows.specs.declared.commit.Commit.{Commit}
use Rattle.rows.specs.declared.entry.Entry.{Entry}
use Rattle.rows.specs.Shape.{Shape}
use Rattle.rows.specs.Entries.{fitting, table_of, shape_after_one, shape_after}
use Rattle.rows.specs.Tables.{Tables, opening, shape_in, rows_of, row_at, is_row_at, apply_entries, applied}
use Rattle.rows.specs.Commits.{apply_commits, tables_after, is_of, last_touching}
use Rattle.rows.specs.Presence.{stands_for, is_there_after}
use Rattle.rows.specs.RowAfter.{row_after_commits, row_after_fit}

-- commits that are defined are defined up to each version
abbrev pub BeginningsAreDefined : Type 0
BeginningsAreDefined =
    (shape : Shape) (commits : List Commit) (version : ℕ) → is_ok (apply_commits (opening shape) commits) ≡ true
    → apply_commits (opening shape) (take version commits) ≡ Ok (tables_after shape commits version)

-- each of them is defined after those before it
abbrev pub EachIsDefined : Type 0
EachIsDefined =
    (shape : Shape) (before : List Commit) (commit : Commit) (behind : List Commit)
    → is_ok (apply_commits (opening shape) (before ++ commit ∷ behind)) ≡ true
    → is_ok (apply_entries (tables_after shape before (length before)) commit.entries) ≡ true

-- and each entry of each of them fits where it stands
abbrev pub FitInTurn : Shape → List Entry → Type 0
FitInTurn shape [] = Unit {0}
FitInTurn shape (entry ∷ entries) = (is_ok (fitting shape entry) ≡ true) × FitInTurn (shape_after_one shape entry) entries

abbrev pub CommitsFitInTurn : Shape → List Commit → Type 0
CommitsFitInTurn shape [] = Unit {0}
CommitsFitInTurn shape (commit ∷ commits) = FitInTurn shape commit.entries × CommitsFitInTurn (shape_after shape commit.entries) commits

abbrev pub EachFits : Type 0
EachFits =
    (shape : Shape) (commits : List Commit) → is_ok (apply_commits (opening shape) commits) ≡ true → CommitsFitInTurn shape commits

-- and the table of each entry of each of them is there
abbrev pub EachHasTable : Type 0
EachHasTable =
    (shape : Shape) (commits : List Commit) → is_ok (apply_commits (opening shape) commits) ≡ true
    → AllByRecursion (λ commit. AllByRecursion (λ entry. table_of entry < length shape) commit.entries) commits

-- with one more after them that is defined there, they are defined
abbrev pub OneMoreIsDefined : Type 0
OneMoreIsDefined =
    (shape : Shape) (commits : List Commit) (commit : Commit) → is_ok (apply_commits (opening shape) commits) ≡ true
    → is_ok (apply_entries (tables_after shape commits (length commits)) commit.entries) ≡ true
    → is_ok (apply_commits (opening shape) (commits ++ commit ∷ [])) ≡ true

-- entries whose first are not defined are not defined
abbrev pub UndefinedStayUndefined : Type 0
UndefinedStayUndefined =
    (tables : Tables) (before entries : List Entry) → is_ok (apply_entries tables before) ≡ false
    → is_ok (apply_entries tables (before ++ entries)) ≡ false

-- one more entry is defined if it fits the tables after the others and its row stands as it needs it
abbrev pub OneMoreEntryIsDefined : Type 0
OneMoreEntryIsDefined =
    (shape : Shape) (commits : List Commit) (version : ℕ) (before : List Entry) (entry : Entry) (table row : ℕ)
    → is_of table row entry ≡ true → is_ok (apply_entries (tables_after shape commits version) before) ≡ true
    → is_ok (apply_entries (tables_after shape commits version) (before ++ entry ∷ []))
    ≡ (is_ok (fitting (shape_after (shape_in (tables_after shape commits version)) before) entry)
    && stands_for entry (is_there_after table row before (is_row_at (tables_after shape commits version) table row)))

-- entries that are defined at a version, and that no later commit touches, are defined at the newest
abbrev pub UntouchedStayDefined : Type 0
UntouchedStayDefined =
    (shape : Shape) (commits : List Commit) (version : ℕ) (entries : List Entry)
    → is_ok (apply_commits (opening shape) commits) ≡ true → last_touching entries 0 commits ≤ version
    → is_ok (apply_entries (tables_after shape commits version) entries) ≡ true
    → is_ok (apply_entries (tables_after shape commits (length commits)) entries) ≡ true

-- whether a row is there after entries that are defined follows from the entries
abbrev pub PresenceIsTold : Type 0
PresenceIsTold =
    (tables : Tables) (entries : List Entry) (table row : ℕ) → is_ok (apply_entries tables entries) ≡ true
    → is_row_at (applied tables entries) table row ≡ is_there_after table row entries (is_row_at tables table row)

-- a row's values at a version are those that the commits up to it leave
abbrev pub RowsAreLeft : Type 0
RowsAreLeft =
    (shape : Shape) (commits : List Commit) (version table row : ℕ) → is_ok (apply_commits (opening shape) commits) ≡ true
    → row_at (rows_of (tables_after shape commits version) table) row ≡ row_after_commits shape table row (take version commits) None

-- and those that a transaction sees are those that its entries that fit leave of them
abbrev pub RowsAreSeen : Type 0
RowsAreSeen =
    (shape : Shape) (commits : List Commit) (version : ℕ) (entries : List Entry) (table row : ℕ)
    → row_at (rows_of (applied (tables_after shape commits version) entries) table) row
    ≡ row_after_fit (shape_in (tables_after shape commits version)) table row entries
    (row_at (rows_of (tables_after shape commits version) table) row)
