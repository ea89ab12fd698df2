-- How a telling stands: what it has told, what will be published, and what is published.
use Rattle.std.specs.Prelude.{◌≡◌, ◌<◌, List, [], ◌∷◌, ◌++◌, length, Option, None, Some}
use Rattle.logbook.specs.Pages.{Book}
use Rattle.rows.specs.declared.commit.Commit.{Commit}
use Rattle.history.specs.Told.{told}
use Rattle.published.specs.declared.shown.Publication.{Publication}

pub record Told : Type 0 where
  pub all : List Commit
  pub queued : List Commit
  pub shown : List Commit

-- what is told beside what will be published: nothing, or the commit of a publication that found no memory
abbrev pub Waits : Book → List Commit → List Commit → Option Publication → Type 0
Waits book queued all None = queued ≡ all
Waits book queued all (Some publication) =
    (publication.seen.book ≡ book) × (told publication.seen.log ≡ all) × (0 < length publication.seen.log)
    × (all ≡ queued ++ publication.commit ∷ [])
