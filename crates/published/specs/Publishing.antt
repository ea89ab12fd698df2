-- What a line publishes, and what a publication makes of it.
use Rattle.std.specs.Prelude.{ℕ, ◌≡◌, ◌<◌, List, length}
use Rattle.logbook.specs.Pages.{Book}
use Rattle.rows.specs.declared.commit.Commit.{Commit}
use Rattle.rows.specs.declared.kind.Kind.{Kind}
use Rattle.rows.specs.Shape.{shape_of}
use Rattle.journal.specs.Recovery.{IsJournaled}
use Rattle.mvcc.specs.VersionList.{absorbed}
use Rattle.history.specs.Told.{told}
use Rattle.published.specs.declared.shown.Shown.{Shown}
use Rattle.published.specs.declared.shown.Publication.{Publication}

-- versions of this line, with the beginning of its history that they are of
pub record IsOfLine (book : Book) (schema : List (List ℕ × List Kind)) (workers : ℕ) (shown : Shown) : Type 0 where
  pub of_book : shown.seen.book ≡ book
  pub of_schema : shown.versions.schema ≡ schema
  pub commits : told shown.seen.log ≡ shown.versions.commits
  pub some : 0 < length shown.seen.log
  pub legal : IsJournaled workers (shape_of schema) shown.versions.commits

-- one more commit, if it is defined on the newest rows, and the history that the publication tells
abbrev pub with_publication : Shown → Publication → Shown
with_publication shown publication = record { versions = absorbed shown.versions publication.commit; seen = publication.seen }

-- the list that is published, and the one that will be with the next publication
pub record Lists : Type 0 where
  pub shown : List Commit
  pub queued : List Commit
