-- What a publication makes of what is published.
use Rattle.std.proofs.Common.{◌≡◌, ℕ, ◌<◌, Bool, true, false, List, [], ◌∷◌, ◌++◌, length, Result, Ok, Err}
use Rattle.std.proofs.Common.{refl, ap, sym, ◌∙◌, MatchBool, MatchResult, subst}
use Rattle.std.specs.Result.{is_ok}
use Rattle.std.proofs.lemmas.List.Sums.{fold-append}
use Rattle.logbook.specs.Pages.{Book}
use Rattle.rows.specs.declared.commit.Commit.{Commit}
use Rattle.rows.specs.declared.kind.Kind.{Kind}
use Rattle.rows.specs.Commits.{tables_after}
use Rattle.rows.specs.Shape.{shape_of}
use Rattle.rows.specs.Tables.{apply_entries}
use Rattle.rows.specs.ListLaws.{EachIsDefined}
use Rattle.journal.specs.Recovery.{IsJournaled}
use Rattle.mvcc.specs.VersionList.{VersionList, defined_at}
use Rattle.history.specs.Told.{told}
use Rattle.published.specs.declared.shown.Shown.{Shown}
use Rattle.published.specs.declared.shown.Publication.{Publication}
use Rattle.published.specs.Publishing.{IsOfLine, with_publication}
use Rattle.published.specs.Inner.Queue.{with_publications}

-- the last commit of a list that a journal may be of is defined where it stands
pub defined-last : (each : EachIsDefined) (versions : VersionList) (schema : List (List ℕ × List Kind)) (workers : ℕ) (commit : Commit)
    → versions.schema ≡ schema → IsJournaled workers (shape_of schema) (versions.commits ++ commit ∷ [])
    → defined_at versions (length versions.commits) commit.entries ≡ true
defined-last each versions schema workers commit same journaled =
    ap (λ s. is_ok (apply_entries (tables_after (shape_of s) versions.commits (length versions.commits)) commit.entries)) same
    ∙ each (shape_of schema) versions.commits commit [] journaled.legal.defined

abbrev added : Shown → Publication → Shown
added shown publication = record {
  versions = record shown.versions { commits = shown.versions.commits ++ publication.commit ∷ [] };
  seen = publication.seen;
}

is-added : (shown : Shown) (publication : Publication)
    → defined_at shown.versions (length shown.versions.commits) publication.commit.entries ≡ true
    → with_publication shown publication ≡ added shown publication
is-added shown publication is = rw is refl

-- a publication that tells the next commit leaves versions of the line
pub is_of_line-with_publication : (each : EachIsDefined) (book : Book) (schema : List (List ℕ × List Kind)) (workers : ℕ) (shown : Shown)
    (publication : Publication)
    → IsOfLine book schema workers shown → publication.seen.book ≡ book
    → told publication.seen.log ≡ shown.versions.commits ++ publication.commit ∷ [] → 0 < length publication.seen.log
    → IsJournaled workers (shape_of schema) (shown.versions.commits ++ publication.commit ∷ [])
    → IsOfLine book schema workers (with_publication shown publication)
    × ((with_publication shown publication).versions.commits ≡ shown.versions.commits ++ publication.commit ∷ [])
is_of_line-with_publication each book schema workers shown publication is own tells some legal =
    let e = is-added shown publication (defined-last each shown.versions schema workers publication.commit is.of_schema legal) in (
      rw e (record { of_book = own; of_schema = is.of_schema; commits = tells; some = some; legal = legal }),
      ap (λ (s : Shown). s.versions.commits) e,
    )

pub with_publications-snoc : (shown : Shown) (publications : List Publication) (publication : Publication)
    → with_publications shown (publications ++ publication ∷ []) ≡ with_publication (with_publications shown publications) publication
with_publications-snoc shown publications publication = fold-append with_publication shown publications (publication ∷ [])

-- what is queued and shown after a push, by what the writer answers
pub pushed : (each : EachIsDefined) (book : Book) (schema : List (List ℕ × List Kind)) (workers : ℕ) (shown : Shown)
    (old new : List Publication) (publication : Publication)
    (r : Result (Unit {0}) Publication)
    → IsOfLine book schema workers (with_publications shown old) → publication.seen.book ≡ book
    → told publication.seen.log ≡ (with_publications shown old).versions.commits ++ publication.commit ∷ []
    → 0 < length publication.seen.log
    → IsJournaled workers (shape_of schema) ((with_publications shown old).versions.commits ++ publication.commit ∷ [])
    → MatchResult r (λ _. new ≡ old ++ publication ∷ []) (λ x. (x ≡ publication) × (new ≡ old))
    → IsOfLine book schema workers (with_publications shown new)
    × MatchResult r
    (λ _. (with_publications shown new).versions.commits ≡ (with_publications shown old).versions.commits ++ publication.commit ∷ [])
    (λ back. (back ≡ publication) × ((with_publications shown new).versions.commits ≡ (with_publications shown old).versions.commits))
pushed each book schema workers shown old new publication (Ok u) is own tells some legal how =
    let next = is_of_line-with_publication each book schema workers (with_publications shown old) publication is own tells some legal in
    let e : with_publications shown new ≡ _ = ap (with_publications shown) how ∙ with_publications-snoc shown old publication in
    rw e next
pushed each book schema workers shown old new publication (Err back) is own tells some legal how =
    let e = ap (with_publications shown) how.1 in
    rw e (is, (how.0, refl))

-- what is shown after a publication, by whether there was memory
pub published : (book : Book) (schema : List (List ℕ × List Kind)) (workers : ℕ) (old new : Shown)
    (before after : List Publication) (b : Bool)
    → IsOfLine book schema workers old → IsOfLine book schema workers (with_publications old before)
    → with_publications new after ≡ with_publications old before → MatchBool b (new ≡ with_publications old before) (new ≡ old)
    → (IsOfLine book schema workers new × IsOfLine book schema workers (with_publications new after))
    × MatchBool b (new.versions.commits ≡ (with_publications new after).versions.commits) (new.versions.commits ≡ old.versions.commits)
published book schema workers old new before after true is later same how = (
  (subst (IsOfLine book schema workers) (sym how) later, subst (IsOfLine book schema workers) (sym same) later),
  ap (λ (s : Shown). s.versions.commits) (how ∙ sym same),
)
published book schema workers old new before after false is later same how = (
  (subst (IsOfLine book schema workers) (sym how) is, subst (IsOfLine book schema workers) (sym same) later),
  ap (λ (s : Shown). s.versions.commits) how,
)
