-- What a run answers where a version was fetched and nothing is missing.
use Rattle.std.proofs.Common.{◌≡◌, ◌<◌, Option, Some, Result, Ok, Err, IsOkAnd, inl, inr, refl, sym, ap, subst, ◌∙◌}
use Rattle.rows.specs.Commits.{apply_commits}
use Rattle.rows.specs.Tables.{Tables, Refusal}
use Rattle.dispatcher.specs.declared.outcome.Run.{Run}
use Rattle.dispatcher.specs.declared.outcome.Run.TheVariants as runs
use Rattle.dispatcher.specs.State.{Replica, Batch, Fetched}
use Rattle.dispatcher.specs.Protocol.{Readiness, Ready, Nothing}
use Rattle.dispatcher.specs.Steps.{broken_of, first_tables, to_apply, at_fetched, CaughtUp, CannotCatchUp, Ends, readiness_of, RunsAs}
use Rattle.dispatcher.specs.Steps.{MayRun}
use Rattle.dispatcher.specs.Inner.Parts.{answered_by, MayAnswerBatch}
use Rattle.dispatcher.proofs.Ready.{CanAnswer, finds, ready-can}

made-batch : (r new : Replica) (fetched : Fetched) (made : Result Tables Refusal)
    → IsOkAnd made (λ tables. new ≡ at_fetched r fetched tables) → new.batch ≡ r.batch
made-batch r new fetched (Ok tables) h = ap (λ (new : Replica). new.batch) h
made-batch r new fetched (Err refusal) h = absurd h

-- what catching up leaves has the same batch
caught-batch : (r new : Replica) (fetched : Fetched) → CaughtUp r fetched new → new.batch ≡ r.batch
caught-batch r new fetched caught =
    made-batch r new fetched (apply_commits (first_tables r fetched) (to_apply r fetched caught.commits)) caught.applied

module _ (r : Replica) (batch : Batch) (fetched : Fetched) (can : CanAnswer r batch fetched) where
  is-ready : readiness_of r ≡ Ready batch.plans fetched
  is-ready = finds r batch fetched Nothing can.whole can.there can.has can.complete

  run-ends : (answer : Run) (new : Replica) → Ends r batch.plans fetched answer new → MayRun r answer new
  run-ends answer new ends = inl (subst (λ (found : Readiness). RunsAs found r answer new) (sym is-ready) ends)

  -- it caught up, and its batch was answered or not
  pub run-answers : (after : Replica) (answer : Run) (new : Replica) → CaughtUp r fetched after → MayAnswerBatch after answer new
      → MayRun r answer new
  run-answers after answer new caught (inl memory) =
      inr (fetched, ready-can r batch fetched can, inl (memory.0, inr (subst (CaughtUp r fetched) (sym memory.1) caught)))
  run-answers after answer new caught (inr answered) =
      let there : after.batch ≡ Some batch = caught-batch r after fetched caught ∙ can.there in
      let told = ap (λ (batch : Option Batch). answered_by after batch) (sym there) ∙ answered in
      run-ends answer new (inl (
        after,
        caught,
        sym (ap (λ (told : Run × Replica). told.0) told),
        sym (ap (λ (told : Run × Replica). told.1) told),
      ))

  -- it could not catch up
  pub run-inconsistent : (new : Replica) → CannotCatchUp r fetched × (new ≡ broken_of r) → MayRun r runs.Inconsistent new
  run-inconsistent new cannot = run-ends runs.Inconsistent new (inr (cannot.0, refl, cannot.1))

  -- it was out of memory before the first change
  pub run-memory : (new : Replica) → new ≡ r → MayRun r runs.Memory new
  run-memory new same = inr (fetched, ready-can r batch fetched can, inl (refl, inl same))

  -- or later
  pub run-broken : (new : Replica) → (new ≡ broken_of r) × (r.version < fetched.version) → MayRun r runs.Broken new
  run-broken new broken = inr (fetched, ready-can r batch fetched can, inr (refl, broken.0, broken.1))
