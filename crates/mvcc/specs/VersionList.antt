-- The versions of a database: the schema of its tables, by their names and kinds, and the list of its commits.
use Rattle.std.specs.Prelude.{ℕ, List, [], ◌∷◌, ◌++◌, length, Bool, is_ok, if◌then◌else◌}
use Rattle.rows.specs.declared.commit.Commit.{Commit}
use Rattle.rows.specs.declared.entry.Entry.{Entry}
use Rattle.rows.specs.declared.kind.Kind.{Kind}
use Rattle.rows.specs.Shape.{shape_of}
use Rattle.rows.specs.Tables.{Tables, apply_entries}
use Rattle.rows.specs.Commits.{tables_after}

-- the versions of a database: its schema and its commits
pub record VersionList : Type 0 where
  pub schema : List (List ℕ × List Kind)
  pub commits : List Commit

-- the tables at that version
abbrev pub tables_at : VersionList → ℕ → Tables
tables_at versions version = tables_after (shape_of versions.schema) versions.commits version

-- whether each of these entries is defined where it stands on the rows at that version
abbrev pub defined_at : VersionList → ℕ → List Entry → Bool
defined_at versions version entries = is_ok (apply_entries (tables_at versions version) entries)

-- the versions with this commit at the end, if each of its entries is defined where it stands on the newest rows; otherwise
-- as they are
abbrev pub absorbed : VersionList → Commit → VersionList
absorbed versions commit =
    if defined_at versions (length versions.commits) commit.entries then record versions { commits = versions.commits ++ commit ∷ [] }
    else versions
