-- A list of commits rebuilt one by one: each is defined where it stands, and its frames can be sent.
use Rattle.std.proofs.Common.{◌≡◌, ◌+◌, ◌<◌, ◌≤◌, ℕ, true, false, List, [], ◌∷◌, ◌++◌, length, take, drop, get_or}
use Rattle.std.proofs.Common.{sym, ap, subst, ◌∙◌, arith, refl}
use Rattle.std.specs.List.{AllByRecursion}
use Rattle.std.specs.Result.{is_ok}
use Rattle.std.proofs.lemmas.List.{take_all, drop_more, take-append-drop}
use Rattle.std.proofs.Math.ListN.{drop_of_length-le}
use Rattle.rows.specs.declared.commit.Commit.{Commit}
use Rattle.rows.specs.declared.kind.Kind.{Kind}
use Rattle.rows.specs.Commits.{IsCommit, apply_commits, tables_after}
use Rattle.rows.specs.Limits.{commit_entries_max, workers_max}
use Rattle.rows.specs.Shape.{shape_of}
use Rattle.rows.specs.Tables.{opening, apply_entries}
use Rattle.rows.specs.ListLaws.{EachIsDefined}
use Rattle.mvcc.specs.VersionList.{VersionList, defined_at}
use Rattle.update_log.specs.declared.span.Span.{Span}
use Rattle.update_log.specs.Frames.{IsCuttable}
use Rattle.update_log.specs.Streams.{AreStreamsOf, stream_at}
use Rattle.primary.proofs.Elements.{all-get_or}
use Rattle.journal.specs.Recovery.{HasRecord, IsJournaled}
use Rattle.primary.specs.Journaling.{AreNumbered}
use Rattle.primary.specs.Steps.{started_primary}
use Rattle.primary.specs.Inner.Parts.{primary_of}
use Rattle.primary.proofs.Streams.{next-below}

-- the next commit is defined where it stands
pub defined-next : (each : EachIsDefined) (versions : VersionList) (schema : List (List ℕ × List Kind)) (workers : ℕ)
    (commits : List Commit) (i : ℕ) (commit : Commit) → i < length commits → commit ≡ get_or commits i commit
    → IsJournaled workers (shape_of schema) commits
    → versions.schema ≡ schema → versions.commits ≡ take i commits
    → defined_at versions (length versions.commits) commit.entries ≡ true
defined-next each versions schema workers commits i commit h e journaled same taken =
    let shape = shape_of schema in
    let rest = drop (i + 1) commits in
    let next : drop i commits ≡ commit ∷ rest = drop_more commits i commit h ∙ ap (λ c. c ∷ rest) (sym e) in
    let whole : take i commits ++ commit ∷ rest ≡ commits =
    ap (λ back. take i commits ++ back) (sym next) ∙ take-append-drop i commits in
    ap (λ s. is_ok (apply_entries (tables_after (shape_of s) versions.commits (length versions.commits)) commit.entries)) same
    ∙ ap (λ cs. is_ok (apply_entries (tables_after shape cs (length cs)) commit.entries)) taken
    ∙ each shape (take i commits) commit rest (ap (λ cs. is_ok (apply_commits (opening shape) cs)) whole ∙ journaled.legal.defined)

-- and it can be cut into frames, each of which has a seq
pub cuttable-next : (commits : List Commit) (i : ℕ) (commit : Commit) (streams : List (List Span)) (number : ℕ) → i < length commits
    → commit ≡ get_or commits i commit → AllByRecursion (IsCommit workers_max) commits → AllByRecursion HasRecord commits
    → AreNumbered commits → AreStreamsOf streams (take i commits) → 0 < number
    → IsCuttable commit number (length (stream_at streams commit.worker)) × (length commit.entries ≤ commit_entries_max)
cuttable-next commits i commit streams number h e each records numbered are some =
    let own : IsCommit workers_max commit = subst (IsCommit workers_max) (sym e) (all-get_or
    (IsCommit workers_max) commits i commit h each) in
    let record_held : HasRecord commit = subst HasRecord (sym e) (all-get_or HasRecord commits i commit h records) in (
      record {
        worker_below = omega (arith, own.worker);
        numbered = some;
        spelled = record_held.spelled;
        seqs_below = omega (arith, next-below commits i commit h e numbered, are.counted commit.worker);
      },
      own.few,
    )

-- the primary of versions that are all durable
pub started-is : (versions : VersionList) (schema : List (List ℕ × List Kind)) (durable workers base : ℕ) (commits : List Commit)
    → versions.schema ≡ schema → versions.commits ≡ commits → durable ≡ length commits → base ≡ 0
    → primary_of versions durable workers false base ≡ started_primary schema workers commits
started-is versions schema durable workers base commits same are counted opening =
    let within : length versions.commits ≤ durable = omega (arith, ap length are) in
    let all : take durable versions.commits ≡ commits = take_all durable versions.commits within ∙ are in
    let none : drop durable versions.commits ≡ [] = drop_of_length-le versions.commits within in
    rw (same, all, none, opening) refl

-- commits of so many workers are of the most that there can be
pub each-of_most : (workers : ℕ) (commits : List Commit) → workers ≤ workers_max → AllByRecursion (IsCommit workers) commits
    → AllByRecursion (IsCommit workers_max) commits
each-of_most workers [] few each = tt
each-of_most workers (commit ∷ commits) few each = (
  record { worker = omega (arith, each.0.worker); some = each.0.some; few = each.0.few },
  each-of_most workers commits few each.1,
)
