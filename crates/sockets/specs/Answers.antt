-- What a job is answered, by the list of commits that its seat has seen.
use Rattle.std.specs.Prelude.{◌≡◌, ℕ, ◌<◌, ◌≤◌, List, [], length, true, Ok, Err, Some, is_ok}
use Rattle.rows.specs.declared.commit.Commit.{Commit}
use Rattle.rows.specs.Commits.{tables_after}
use Rattle.rows.specs.Shape.{Shape}
use Rattle.rows.specs.Tables.{apply_entries}
use Rattle.mvcc.specs.Transaction.{Transaction}
use Rattle.desk.specs.Answers.{commit_at}
use Rattle.sockets.specs.declared.job.Job.{Job}
use Rattle.sockets.specs.declared.job_answer.JobAnswer.{JobAnswer}
use Rattle.sockets.specs.declared.job_answer.JobAnswer.TheVariants.{Ticket, Conflict, Refused}
use Rattle.sockets.specs.declared.refusal.Refusal.{Refusal}
use Rattle.sockets.specs.declared.refusal.Refusal.TheVariants as refusals
use Rattle.sockets.specs.declared.step.Step.{Step}
use Rattle.sockets.specs.Changes.{job_answer}

-- what a job's steps make of a transaction that begins at a version of the list, `from` or a later one: each condition holds where it
-- stands
pub record IsDraft (shape : Shape) (from : ℕ) (list : List Commit) (steps : List Step) (draft : Transaction) : Type 0 where
  pub begun : from ≤ draft.snapshot
  pub within : draft.snapshot ≤ length list
  pub made : job_answer shape list draft.snapshot steps ≡ Ok draft

-- a job whose commit stands in the list at this number, which is above its snapshot: it is of the job's worker, and has the
-- entries that the job's steps make
pub record IsCommitted (shape : Shape) (from : ℕ) (list : List Commit) (job : Job) (number : ℕ) : Type 0 where
  pub draft : Transaction
  pub drafted : IsDraft shape from list job.steps.items draft
  pub above : draft.snapshot < number
  pub stands : commit_at list number ≡ Some (record { worker = job.worker; entries = draft.entries })

-- a job that is answered with a conflict, whose number is above its snapshot: no more is known by the list, since the commit of
-- that number may not be durable yet
pub record IsInConflict (shape : Shape) (from : ℕ) (list : List Commit) (job : Job) (number : ℕ) : Type 0 where
  pub draft : Transaction
  pub drafted : IsDraft shape from list job.steps.items draft
  pub above : draft.snapshot < number

-- a step that is refused: at a version of the list, `from` or a later one, the steps before it made a draft, and this one is refused
-- for just that reason
pub record IsStepRefused (shape : Shape) (from : ℕ) (list : List Commit) (steps : List Step) (refusal : Refusal) : Type 0 where
  pub version : ℕ
  pub begun : from ≤ version
  pub within : version ≤ length list
  pub refused : job_answer shape list version steps ≡ Err refusal

-- why steps are refused: one of them is, or what they all make has no entries, or the primary finds it undefined, or numbers are used
-- up; nothing is known by the list if it could not be read
abbrev pub IsRefused : Shape → ℕ → List Commit → List Step → Refusal → Type 0
IsRefused shape from list steps (refusals.Change step fault) = IsStepRefused shape from list steps (refusals.Change step fault)
IsRefused shape from list steps (refusals.Condition step) = IsStepRefused shape from list steps (refusals.Condition step)
IsRefused shape from list steps refusals.NoChange =
    (draft : Transaction) × IsDraft shape from list steps draft × (draft.entries ≡ [])
IsRefused shape from list steps refusals.Unread = Unit {0}
IsRefused shape from list steps refusals.NumbersUsedUp = (draft : Transaction) × IsDraft shape from list steps draft
IsRefused shape from list steps refusals.Foreign =
    (draft : Transaction) × IsDraft shape from list steps draft
    × ¬ (is_ok (apply_entries (tables_after shape list draft.snapshot) draft.entries) ≡ true)

-- what a job is answered
abbrev pub IsJobAnswer : Shape → ℕ → List Commit → Job → JobAnswer → Type 0
IsJobAnswer shape from list job (Ticket number) = IsCommitted shape from list job number
IsJobAnswer shape from list job (Conflict number) = IsInConflict shape from list job number
IsJobAnswer shape from list job (Refused refusal) = IsRefused shape from list job.steps.items refusal
