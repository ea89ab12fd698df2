-- The last commit that conflicts with an entry, told by the last of its row, of its table, and of the columns of its table.
use Rattle.std.specs.Prelude.{ℕ, List, Bool}
use Rattle.std.specs.List.{list_any}
use Rattle.rows.specs.declared.commit.Commit.{Commit}
use Rattle.rows.specs.declared.entry.Entry.{Entry}
use Rattle.rows.specs.declared.entry.Entry.TheVariants.{Insert, Patch, Delete, AddColumn}
use Rattle.rows.specs.Commits.{last_where}
use Rattle.mvcc.specs.Newest.{newest_of, newest_in}
use Rattle.mvcc.specs.Inner.Keys.{names}

-- whether some entry of the commit is of that row alone
abbrev pub names_in : ℕ → ℕ → Commit → Bool
names_in table row commit = list_any (names table row) commit.entries

-- the number of the last commit with an entry of that row alone, counted from 1; 0 if there is none
abbrev pub newest_naming : ℕ → ℕ → List Commit → ℕ
newest_naming table row commits = last_where (names_in table row) 0 commits

-- the last commit that conflicts with an entry: one of its row; or, of one that adds a column, any of its table
abbrev pub newest_for : Entry → List Commit → ℕ
newest_for (Insert table row bytes) commits = newest_of table row.0 commits
newest_for (Patch table row offset bytes) commits = newest_of table row.0 commits
newest_for (Delete table row) commits = newest_of table row.0 commits
newest_for (AddColumn table default) commits = newest_in table commits
