-- The last commit that touches a row, that has an entry of a table, or that adds a column to one.
use Rattle.std.specs.Prelude.{ℕ, List, Bool, false, ◌==◌}
use Rattle.std.specs.List.{list_any}
use Rattle.rows.specs.declared.commit.Commit.{Commit}
use Rattle.rows.specs.declared.entry.Entry.{Entry}
use Rattle.rows.specs.declared.entry.Entry.TheVariants.{Insert, Patch, Delete, AddColumn}
use Rattle.rows.specs.Entries.{table_of}
use Rattle.rows.specs.Commits.{is_of, last_where}

-- whether some entry of the commit is of that row; one that adds a column is of every row of its table
abbrev pub writes : ℕ → ℕ → Commit → Bool
writes table row commit = list_any (is_of table row) commit.entries

-- the number of the last commit with an entry of that row, counted from 1; 0 if there is none
abbrev pub newest_of : ℕ → ℕ → List Commit → ℕ
newest_of table row commits = last_where (writes table row) 0 commits

-- whether an entry is of that table
abbrev pub is_in : ℕ → Entry → Bool
is_in table entry = table_of entry == table

-- whether some entry of the commit is of that table
abbrev pub concerns : ℕ → Commit → Bool
concerns table commit = list_any (is_in table) commit.entries

-- the number of the last commit with an entry of that table, counted so
abbrev pub newest_in : ℕ → List Commit → ℕ
newest_in table commits = last_where (concerns table) 0 commits

-- whether an entry adds a column to that table
abbrev pub adds_to : ℕ → Entry → Bool
adds_to table (Insert at row bytes) = false
adds_to table (Patch at row offset bytes) = false
adds_to table (Delete at row) = false
adds_to table (AddColumn at default) = at == table

-- whether some entry of the commit adds a column to that table
abbrev pub widens : ℕ → Commit → Bool
widens table commit = list_any (adds_to table) commit.entries

-- the number of the last commit that adds a column to that table, counted so
abbrev pub newest_added : ℕ → List Commit → ℕ
newest_added table commits = last_where (widens table) 0 commits
