-- The tables at the versions of a legal list, and what the commits between two versions make of them.
use Rattle.std.proofs.Common.{◌≡◌, ℕ, ◌+◌, ◌-◌, ◌≤◌, true, List, [], ◌∷◌, ◌++◌, length, take, drop}
use Rattle.std.proofs.Common.{Result, Ok, Err, refl, sym, ap, ◌∙◌, arith}
use Rattle.std.specs.Result.{is_ok}
use Rattle.std.proofs.lemmas.Bool.{false≢true}
use Rattle.std.proofs.Math.Seq.{take-add}
use Rattle.std.proofs.lemmas.List.{take-append-le, take-append-drop}
use Rattle.rows.specs.declared.commit.Commit.{Commit}
use Rattle.rows.specs.Shape.{Shape}
use Rattle.rows.specs.Tables.{Tables, Refusal, opening, apply_entries, and_then}
use Rattle.rows.specs.Commits.{apply_commits, tables_after}
use Rattle.ordering.specs.Cutting.{commits_between}

pub apply_commits-append : (tables : Tables) (before commits : List Commit)
    → apply_commits tables (before ++ commits) ≡ and_then (λ after. apply_commits after commits) (apply_commits tables before)
apply_commits-append tables [] commits = refl
apply_commits-append tables (commit ∷ before) commits =
    by (λ after. apply_commits-append after before commits) (apply_entries tables commit.entries)
  where
    by : ((after : Tables) → apply_commits after (before ++ commits) ≡ and_then (λ after. apply_commits after commits)
        (apply_commits after before))
        → (first : Result Tables Refusal)
        → and_then (λ after. apply_commits after (before ++ commits)) first ≡ and_then (λ after. apply_commits after commits)
        (and_then (λ after. apply_commits after before) first)
    by rest (Ok after) = rest after
    by rest (Err refusal) = refl

first-ok : (next : Tables → Result Tables Refusal) (first : Result Tables Refusal) → is_ok (and_then next first) ≡ true → is_ok first ≡ true
first-ok next (Ok after) h = refl
first-ok next (Err refusal) h = h

-- the beginnings of a list whose entries are defined are so too
legal-left : (shape : Shape) (before commits : List Commit) → is_ok (apply_commits (opening shape) (before ++ commits)) ≡ true
    → is_ok (apply_commits (opening shape) before) ≡ true
legal-left shape before commits h =
    first-ok (λ after. apply_commits after commits) (apply_commits (opening shape) before)
    (ap is_ok (sym (apply_commits-append (opening shape) before commits)) ∙ h)

at-version : (shape : Shape) (commits : List Commit) (version : ℕ) → is_ok (apply_commits (opening shape) commits) ≡ true
    → apply_commits (opening shape) (take version commits) ≡ Ok (tables_after shape commits version)
at-version shape commits version legal =
    by (apply_commits (opening shape) (take version commits)) refl
    (legal-left shape (take version commits) (drop version commits)
    (ap (λ l. is_ok (apply_commits (opening shape) l)) (take-append-drop version commits) ∙ legal))
  where
    by : (made : Result Tables Refusal) → apply_commits (opening shape) (take version commits) ≡ made → is_ok made ≡ true
        → made ≡ Ok (tables_after shape commits version)
    by (Ok after) e h = rw e refl
    by (Err refusal) e h = absurd (false≢true h)

-- and so are the commits between two versions of it
pub between-applied : (shape : Shape) (commits : List Commit) (from to : ℕ) → is_ok (apply_commits (opening shape) commits) ≡ true
    → from ≤ to
    → apply_commits (tables_after shape commits from) (commits_between commits from to) ≡ Ok (tables_after shape commits to)
between-applied shape commits from to legal up =
    let between = commits_between commits from to in
    let end : from + (to - from) ≡ to = omega arith in
    ap (and_then (λ after. apply_commits after between)) (sym (at-version shape commits from legal))
    ∙ sym (apply_commits-append (opening shape) (take from commits) between)
    ∙ ap (apply_commits (opening shape)) (sym (take-add from (to - from) commits))
    ∙ ap (λ (n : ℕ). apply_commits (opening shape) (take n commits)) end
    ∙ at-version shape commits to legal

-- the tables at a version that is there stay when commits come behind
pub tables-stay : (shape : Shape) (commits more : List Commit) (version : ℕ) → version ≤ length commits
    → tables_after shape (commits ++ more) version ≡ tables_after shape commits version
tables-stay shape commits more version h = rw take-append-le refl
