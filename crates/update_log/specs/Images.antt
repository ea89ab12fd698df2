-- The pieces of a base: those into which the image of the tables at that version is cut.
use Rattle.std.specs.Prelude.{ℕ, List, [], ◌==◌, if◌then◌else◌}
use Rattle.rows.specs.declared.commit.Commit.{Commit}
use Rattle.rows.specs.declared.entry.Entry.{Entry}
use Rattle.rows.specs.Commits.{tables_after}
use Rattle.rows.specs.Image.{image_of}
use Rattle.rows.specs.Shape.{Shape}
use Rattle.update_log.specs.Parts.{pieces_of}

-- the pieces of the base of these commits at that version; at version 0 there is none, since the tables are those of the opening
abbrev pub pieces_at : Shape → List Commit → ℕ → List (List Entry)
pieces_at shape commits base = if base == 0 then [] else pieces_of (image_of shape (tables_after shape commits base))
