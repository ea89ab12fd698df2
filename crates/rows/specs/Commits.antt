-- Lists of commits: which are legal, the tables after the first of them, and what they touch.
use Rattle.std.specs.Prelude.{ℕ, ◌+◌, ◌<◌, ◌≤◌, List, [], ◌∷◌, length, take, Bool, Result, Ok, Err, ◌==◌, ◌&&◌, if◌then◌else◌, IsOk}
use Rattle.std.specs.List.{list_any, AllByRecursion}
use Rattle.rows.specs.declared.commit.Commit.{Commit}
use Rattle.rows.specs.declared.entry.Entry.{Entry}
use Rattle.rows.specs.declared.entry.Entry.TheVariants.{Insert, Patch, Delete, AddColumn}
use Rattle.rows.specs.Limits.{commit_entries_max}
use Rattle.rows.specs.Shape.{Shape}
use Rattle.rows.specs.Entries.{table_of, shape_after}
use Rattle.rows.specs.Tables.{Tables, Refusal, opening, apply_entries, and_then}

-- the tables after all entries of these commits, in order, or the first refusal
abbrev pub apply_commits : Tables → List Commit → Result Tables Refusal
apply_commits tables [] = Ok tables
apply_commits tables (commit ∷ commits) = and_then (λ after. apply_commits after commits) (apply_entries tables commit.entries)

-- a commit's worker is there, and it has 1 to 4096 entries
pub record IsCommit (workers : ℕ) (commit : Commit) : Type 0 where
  pub worker : commit.worker < workers
  pub some : 0 < length commit.entries
  pub few : length commit.entries ≤ commit_entries_max

-- a list of commits that a primary may have: each is a commit, and each entry is defined where it stands
pub record IsLegal (shape : Shape) (workers : ℕ) (commits : List Commit) : Type 0 where
  pub each : AllByRecursion (IsCommit workers) commits
  pub defined : IsOk (apply_commits (opening shape) commits)

-- the kinds of the tables' columns after commits
abbrev pub shape_after_commits : Shape → List Commit → Shape
shape_after_commits shape [] = shape
shape_after_commits shape (commit ∷ commits) = shape_after_commits (shape_after shape commit.entries) commits

-- the tables after the first `version` commits of a legal list
abbrev pub tables_after : Shape → List Commit → ℕ → Tables
tables_after shape commits version = or_opening (apply_commits (opening shape) (take version commits))
  where
    -- a list that is not legal has no tables; this says nothing of it
    or_opening : Result Tables Refusal → Tables
    or_opening (Ok tables) = tables
    or_opening (Err refusal) = opening shape

-- whether an entry is of that row of that table; one that adds a column is of every row of its table
abbrev pub is_of : ℕ → ℕ → Entry → Bool
is_of table row (Insert at id bytes) = (at == table) && (id.0 == row)
is_of table row (Patch at id offset bytes) = (at == table) && (id.0 == row)
is_of table row (Delete at id) = (at == table) && (id.0 == row)
is_of table row (AddColumn at default) = at == table

-- whether two entries conflict: they are of the same row of the same table, or one adds a column to the table of the other
abbrev pub overlaps : Entry → Entry → Bool
overlaps (Insert table row bytes) other = is_of table row.0 other
overlaps (Patch table row offset bytes) other = is_of table row.0 other
overlaps (Delete table row) other = is_of table row.0 other
overlaps (AddColumn table default) other = table_of other == table

-- whether some entry of the commit overlaps with one of these
abbrev pub touches : List Entry → Commit → Bool
touches entries commit = list_any (λ entry. list_any (overlaps entry) commit.entries) entries

-- the greatest number of a commit of which something holds, the first commit of the list being the next after `before`; 0 if it
-- holds of none
abbrev pub last_where : (Commit → Bool) → ℕ → List Commit → ℕ
last_where holds before [] = 0
last_where holds before (commit ∷ commits) =
    later (last_where holds (before + 1) commits)
  where
    later : ℕ → ℕ
    later last = if last == 0 then (if holds commit then before + 1 else 0) else last

-- the greatest number of a commit that touches these entries, counted so
abbrev pub last_touching : List Entry → ℕ → List Commit → ℕ
last_touching entries before commits = last_where (touches entries) before commits
