-- The publications that a publisher has added and not published.
use Rattle.std.specs.Prelude.{fold, Bool, MatchBool, ◌≡◌, List}
use Rattle.published.specs.declared.shown.Shown.{Shown}
use Rattle.published.specs.declared.shown.Publication.{Publication}
use Rattle.published.specs.Publishing.{with_publication}

-- what will be shown after these publications
abbrev pub with_publications : Shown → List Publication → Shown
with_publications shown publications = fold with_publication shown publications

-- what a publication leaves: what is queued is the same, and is shown if there was memory
abbrev pub IsShown : Shown → Shown → Shown → Shown → Bool → Type 0
IsShown queued shown queued_after shown_after ok = (queued_after ≡ queued) × MatchBool ok (shown_after ≡ queued) (shown_after ≡ shown)
