-- Whether a row is there after commits, or after entries of which some are refused, told from the entries alone.
use Rattle.std.specs.Prelude.{ℕ, List, [], ◌∷◌, Bool, if◌then◌else◌, is_ok}
use Rattle.rows.specs.declared.commit.Commit.{Commit}
use Rattle.rows.specs.declared.entry.Entry.{Entry}
use Rattle.rows.specs.Shape.{Shape}
use Rattle.rows.specs.Entries.{fitting, shape_after_one}
use Rattle.rows.specs.Presence.{is_there_after_one, is_there_after}

-- whether a row is there after the commits of a list
abbrev pub is_there_after_commits : ℕ → ℕ → List Commit → Bool → Bool
is_there_after_commits table row [] there = there
is_there_after_commits table row (commit ∷ commits) there =
    is_there_after_commits table row commits (is_there_after table row commit.entries there)

-- whether a row is there after entries, where one that is refused changes nothing
abbrev pub is_there_after_fit : Shape → ℕ → ℕ → List Entry → Bool → Bool
is_there_after_fit shape table row [] there = there
is_there_after_fit shape table row (entry ∷ entries) there =
    is_there_after_fit (shape_after_one shape entry) table row entries
    (if is_ok (fitting shape entry) then is_there_after_one table row entry there else there)
