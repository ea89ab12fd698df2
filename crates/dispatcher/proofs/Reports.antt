-- What a run of a replica that is fed from a list answers, and that it stays fed by it.
use Rattle.std.proofs.Common.{◌≡◌, ℕ, List, Some, None, refl, sym, ap, subst, ◌∙◌, ◌⊎◌, inl, inr}
use Rattle.std.proofs.lemmas.Option.{same_Some}
use Rattle.rows.specs.declared.commit.Commit.{Commit}
use Rattle.rows.specs.Shape.{Shape}
use Rattle.rows.specs.Commits.{tables_after}
use Rattle.dispatcher.specs.declared.outcome.Run.{Run}
use Rattle.dispatcher.specs.declared.outcome.Run.TheVariants as runs
use Rattle.dispatcher.specs.Feeding.{IsFedFrom, RunKeepsFed, RunIsConsistent, AnswerIsReport, ReadyIsAnswered}
use Rattle.dispatcher.specs.State.{Replica, Batch, Fetched}
use Rattle.dispatcher.specs.Report.{report_of}
use Rattle.dispatcher.specs.Protocol.{Readiness, Broken, NoBatch, WaitsForHead, WaitsForPiece, WaitsForFrame, Ready, Nothing}
use Rattle.dispatcher.specs.Steps.{at_fetched, Ends, readiness_of, RunsAs, RunsOutOfMemory}
use Rattle.dispatcher.proofs.CatchingUp.{Merges, can-catch-up, caught-is}
use Rattle.dispatcher.proofs.Feeding.{Arriving, broken-fed, caught-fed, finished-fed}
use Rattle.dispatcher.proofs.Ready.{CanAnswer, finds, ready-parts, ready-is}

-- ---- any run

-- a run that answers no batch leaves the replica
record IsIdle (r : Replica) (answer : Run) (new : Replica) : Type 0 where
  same : new ≡ r
  consistent : answer ≡ runs.Inconsistent → ⊥
  no_report : (text : List ℕ) → answer ≡ runs.Answered text → ⊥

-- the report on the version that was fetched
abbrev reported : Shape → List Commit → Batch → Fetched → Run
reported shape commits batch fetched =
    runs.Answered (report_of (tables_after shape commits fetched.version) fetched.version batch.plans)

-- a run that answers one
record IsReport (shape : Shape) (commits : List Commit) (r : Replica) (answer : Run) (new : Replica) : Type 0 where
  batch : Batch
  fetched : Fetched
  can : CanAnswer r batch fetched
  answers : answer ≡ reported shape commits batch fetched
  leaves : new ≡ record (at_fetched r fetched (tables_after shape commits fetched.version)) { batch = None }

abbrev Ran : Shape → List Commit → Replica → Run → Replica → Type 0
Ran shape commits r answer new = IsIdle r answer new ⊎ IsReport shape commits r answer new

module _ (merges : Merges) (shape : Shape) (commits : List Commit) (r : Replica) (answer : Run) (new : Replica)
    (fed : IsFedFrom shape commits r) where
  idle : (other : Run) → (other ≡ runs.Inconsistent → ⊥) → ((text : List ℕ) → other ≡ runs.Answered text → ⊥)
      → (answer ≡ other) × (new ≡ r) → Ran shape commits r answer new
  idle other consistent no_report is = inl (record {
    same = is.1;
    consistent = λ e. consistent (sym is.0 ∙ e);
    no_report = λ text e. no_report text (sym is.0 ∙ e);
  })

  ends-reports : (batch : Batch) (fetched : Fetched) → CanAnswer r batch fetched → Ends r batch.plans fetched answer new
      → (answer ≡ reported shape commits batch fetched)
      × (new ≡ record (at_fetched r fetched (tables_after shape commits fetched.version)) { batch = None })
  ends-reports batch fetched can (inl ended) =
      let after_is = caught-is merges shape commits r batch fetched fed can ended.0 ended.1 in (
        ended.2 ∙ ap (λ (after : Replica). runs.Answered (report_of after.tables after.version batch.plans)) after_is,
        ended.3 ∙ ap (λ (after : Replica). record after { batch = None }) after_is,
      )
  ends-reports batch fetched can (inr cannot) = absurd (can-catch-up merges shape commits r batch fetched fed can cannot.0)

  ran-parts : RunsAs (readiness_of r) r answer new → Ran shape commits r answer new
  ran-parts ran = by (readiness_of r) refl ran
    where
      by : (found : Readiness) → readiness_of r ≡ found → RunsAs found r answer new → Ran shape commits r answer new
      by Broken is ran = idle runs.Broken (λ e. cc) (λ text e. cc) ran
      by NoBatch is ran = idle runs.NoBatch (λ e. cc) (λ text e. cc) ran
      by WaitsForHead is ran = idle runs.WaitingHead (λ e. cc) (λ text e. cc) ran
      by (WaitsForPiece base number) is ran = idle (runs.WaitingPiece number _) (λ e. cc) (λ text e. cc) ran
      by (WaitsForFrame worker seq) is ran = idle (runs.Waiting worker seq _) (λ e. cc) (λ text e. cc) ran
      by (Ready plans fetched) is ran =
          let batch : Batch = record { plans = plans; fetched = Some fetched } in
          let can = ready-is r plans fetched is in
          let report = ends-reports batch fetched can ran in
          inr (record { batch = batch; fetched = fetched; can = can; answers = report.0; leaves = report.1 })

-- ---- it stays fed

ran-fed : (laws : Arriving) (merges : Merges) (shape : Shape) (commits : List Commit) (r : Replica) (answer : Run) (new : Replica)
    → IsFedFrom shape commits r → Ran shape commits r answer new → IsFedFrom shape commits new
ran-fed laws merges shape commits r answer new fed (inl idle) = subst (IsFedFrom shape commits) (sym idle.same) fed
ran-fed laws merges shape commits r answer new fed (inr report) =
    subst (IsFedFrom shape commits) (sym report.leaves)
    (finished-fed laws merges shape commits r report.batch report.fetched fed report.can)

cut-fed : (laws : Arriving) (merges : Merges) (shape : Shape) (commits : List Commit) (r : Replica) (answer : Run) (new : Replica)
    → IsFedFrom shape commits r → RunsOutOfMemory r answer new → IsFedFrom shape commits new
cut-fed laws merges shape commits r answer new fed wants =
    let fetched = wants.0 in
    let parts = ready-parts r fetched wants.1 in
    elim wants.2 [
      | inl memory ↦ elim memory.1 [
        | inl same ↦ subst (IsFedFrom shape commits) (sym same) fed
        | inr reached ↦ subst (IsFedFrom shape commits) (sym (caught-is merges shape commits r parts.0 fetched fed parts.1 new reached))
            (caught-fed laws merges shape commits r parts.0 fetched fed parts.1)
      ]
      | inr broken ↦ subst (IsFedFrom shape commits) (sym broken.1) (broken-fed laws shape commits r fed)
    ]

pub run-feeds : Arriving → Merges → RunKeepsFed
run-feeds laws merges shape commits r answer new fed (inl ran) =
    ran-fed laws merges shape commits r answer new fed (ran-parts merges shape commits r answer new fed ran)
run-feeds laws merges shape commits r answer new fed (inr wants) = cut-fed laws merges shape commits r answer new fed wants

-- ---- what it answers

ran-consistent : (shape : Shape) (commits : List Commit) (r : Replica) (answer : Run) (new : Replica) → Ran shape commits r answer new
    → answer ≡ runs.Inconsistent → ⊥
ran-consistent shape commits r answer new (inl idle) e = idle.consistent e
ran-consistent shape commits r answer new (inr report) e = (let is = sym report.answers ∙ e in cc)

cut-consistent : (r : Replica) (answer : Run) (new : Replica) → RunsOutOfMemory r answer new → answer ≡ runs.Inconsistent → ⊥
cut-consistent r answer new wants e = elim wants.2 [
  | inl memory ↦ (let is = memory.0 in cc)
  | inr broken ↦ (let is = broken.0 in cc)
]

pub run-consistent : Merges → RunIsConsistent
run-consistent merges shape commits r answer new fed (inl ran) e =
    ran-consistent shape commits r answer new (ran-parts merges shape commits r answer new fed ran) e
run-consistent merges shape commits r answer new fed (inr wants) e = cut-consistent r answer new wants e

abbrev Answers : Shape → List Commit → Replica → List ℕ → Replica → Type 0
Answers shape commits r text new =
    (batch : Batch) × (fetched : Fetched) × (r.batch ≡ Some batch) × (batch.fetched ≡ Some fetched)
    × (text ≡ report_of (tables_after shape commits fetched.version) fetched.version batch.plans) × (new.version ≡ fetched.version)

ran-answers : (shape : Shape) (commits : List Commit) (r : Replica) (text : List ℕ) (new : Replica)
    → Ran shape commits r (runs.Answered text) new → Answers shape commits r text new
ran-answers shape commits r text new (inl idle) = absurd (idle.no_report text refl)
ran-answers shape commits r text new (inr report) =
    let answered = report.answers in
    let can = report.can in
    (report.batch, report.fetched, can.there, can.has, cc answered, ap (λ (after : Replica). after.version) report.leaves)

pub answer-reports : Merges → AnswerIsReport
answer-reports merges shape commits r text new fed (inl ran) =
    ran-answers shape commits r text new (ran-parts merges shape commits r (runs.Answered text) new fed ran)
answer-reports merges shape commits r text new fed (inr wants) = elim wants.2 [
  | inl memory ↦ (let is = memory.0 in absurd (cc))
  | inr broken ↦ (let is = broken.0 in absurd (cc))
]

-- a run by what is known of the batch
runs-ends : (r : Replica) (batch : Batch) (fetched : Fetched) (answer : Run) (new : Replica) → CanAnswer r batch fetched
    → RunsAs (readiness_of r) r answer new → Ends r batch.plans fetched answer new
runs-ends r batch fetched answer new can ran =
    subst (λ (found : Readiness). RunsAs found r answer new) (finds r batch fetched Nothing can.whole can.there can.has can.complete) ran

pub ready-answers : Merges → ReadyIsAnswered
ready-answers merges shape commits r batch fetched answer new fed there e ran =
    let parts = ready-parts r fetched e in
    let same : parts.0 ≡ batch = same_Some parts.0 batch (sym parts.1.there ∙ there) in
    let can : CanAnswer r batch fetched = subst (λ (batch : Batch). CanAnswer r batch fetched) same parts.1 in
    ends-reports merges shape commits r answer new fed batch fetched can (runs-ends r batch fetched answer new can ran)
