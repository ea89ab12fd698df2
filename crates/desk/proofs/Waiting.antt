-- A commit that is told, and one that waits to be published.
use Rattle.std.proofs.Common.{◌≡◌, ap, sym, subst, ◌∙◌, arith, ℕ, ◌+◌, ◌<◌, List}
use Rattle.std.proofs.Common.{[], ◌∷◌, ◌++◌, length, take, drop, get_or, length-append, Option, None, Some}
use Rattle.std.proofs.lemmas.List.{take_more, take-append-drop}
use Rattle.logbook.specs.Pages.{Book}
use Rattle.rows.specs.declared.commit.Commit.{Commit}
use Rattle.rows.specs.Shape.{Shape}
use Rattle.journal.specs.Recovery.{IsJournaled}
use Rattle.journal.specs.Laws.{BeginningIsJournaled}
use Rattle.published.specs.declared.shown.Publication.{Publication}
use Rattle.desk.specs.Inner.Told.{Waits}

-- if all that is told is queued, none waits, and so it is of other lists
pub none_waits : (book : Book) (queued all : List Commit) (waiting : Option Publication) → Waits book queued all waiting → queued ≡ all
    → (others more : List Commit) → others ≡ more → Waits book others more waiting
none_waits book queued all None waits same others more is = is
none_waits book queued all (Some publication) waits same others more is =
    let e = ap length (waits.3) in
    let s = ap length same in
    let l = length-append queued (publication.commit ∷ []) in
    absurd (omega arith)

-- the commits up to the next one
pub next_first : (commits : List Commit) (i : ℕ) (item commit : Commit) → i < length commits → item ≡ get_or commits i item → commit ≡ item
    → take (i + 1) commits ≡ take i commits ++ commit ∷ []
next_first commits i item commit more is same =
    take_more commits i item more ∙ ap (λ (c : Commit). take i commits ++ c ∷ []) (sym is ∙ sym same)

-- the commits up to the next one are such that a journal may be of them
pub next_journaled : (law : BeginningIsJournaled) (workers : ℕ) (shape : Shape) (commits : List Commit) (i : ℕ) (item commit : Commit)
    → i < length commits → item ≡ get_or commits i item → commit ≡ item → IsJournaled workers shape commits
    → IsJournaled workers shape (take i commits ++ commit ∷ [])
next_journaled law workers shape commits i item commit more is same journaled =
    subst (IsJournaled workers shape) (next_first commits i item commit more is same)
    (law workers shape (take (i + 1) commits) commits journaled (drop (i + 1) commits, sym (take-append-drop (i + 1) commits)))
