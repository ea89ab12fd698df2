-- What is recovered of bytes is a list that a journal may be of, and so are its first commits.
use Rattle.std.proofs.Common.{◌≡◌, ◌+◌, ◌<◌, ℕ, List, [], ◌∷◌, ◌++◌, length, take, drop, get_or, sym, subst, ap, ◌∙◌, inl, inr}
use Rattle.std.proofs.Common.{Option, Some, None, IfSome}
use Rattle.std.proofs.lemmas.List.{take_more, take-append-drop}
use Rattle.rows.specs.declared.commit.Commit.{Commit}
use Rattle.rows.specs.Shape.{Shape}
use Rattle.journal.specs.declared.form.Form.{Form}
use Rattle.journal.specs.Recovery.{IsJournaled, IsRecovered}
use Rattle.journal.specs.Laws.{EmptyIsJournaled, BeginningIsJournaled}

pub recovered_journaled : (empty : EmptyIsJournaled) (workers : ℕ) (shape : Shape) (bytes : List ℕ) (form : Form) (commits : List Commit)
    (bytes_kept : ℕ) → IsRecovered workers shape bytes form commits bytes_kept → IsJournaled workers shape commits
recovered_journaled empty workers shape bytes form commits bytes_kept (inl ends) =
    subst (IsJournaled workers shape) (sym ends.2) (empty workers shape)
recovered_journaled empty workers shape bytes form commits bytes_kept (inr keeps) = keeps.0.0.is.journaled

pub first_journaled : (beginning : BeginningIsJournaled) (workers : ℕ) (shape : Shape) (commits : List Commit) (count : ℕ)
    → IsJournaled workers shape commits
    → IsJournaled workers shape (take count commits)
first_journaled beginning workers shape commits count journaled =
    beginning workers shape (take count commits) commits journaled (drop count commits, sym (take-append-drop count commits))

-- the commits up to the next one
pub next_journaled : (beginning : BeginningIsJournaled) (workers : ℕ) (shape : Shape) (commits : List Commit) (told : ℕ) (commit : Commit)
    → told < length commits
    → commit ≡ get_or commits told commit → IsJournaled workers shape commits
    → (take (told + 1) commits ≡ take told commits ++ commit ∷ []) × IsJournaled workers shape (take told commits ++ commit ∷ [])
next_journaled beginning workers shape commits told commit more is journaled =
    let e : take (told + 1) commits ≡ take told commits ++ commit ∷ [] =
    take_more commits told commit more ∙ ap (λ (c : Commit). take told commits ++ c ∷ []) (sym is) in
    (e, subst (IsJournaled workers shape) e (first_journaled beginning workers shape commits (told + 1) journaled))

-- the same of a copy of it, if there is one
pub next_copy : (beginning : BeginningIsJournaled) (workers : ℕ) (shape : Shape) (commits : List Commit) (told : ℕ) (commit : Commit)
    (copy : Option Commit)
    → told < length commits → commit ≡ get_or commits told commit → IsJournaled workers shape commits → IfSome copy (λ c. c ≡ commit)
    → IfSome copy (λ c. take (told + 1) commits ≡ take told commits ++ c ∷ [])
    × IfSome copy (λ c. IsJournaled workers shape (take told commits ++ c ∷ []))
next_copy beginning workers shape commits told commit None more is journaled same = (tt, tt)
next_copy beginning workers shape commits told commit (Some c) more is journaled same =
    let next = next_journaled beginning workers shape commits told commit more is journaled in (
      subst (λ (x : Commit). take (told + 1) commits ≡ take told commits ++ x ∷ []) (sym same) next.0,
      subst (λ (x : Commit). IsJournaled workers shape (take told commits ++ x ∷ [])) (sym same) next.1,
    )
