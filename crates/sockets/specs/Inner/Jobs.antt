-- One job of a worker, meetings, and what of a crew's answers the answers of all jobs rest on.
use Rattle.std.specs.Prelude.{◌≡◌, ℕ, ◌+◌, ◌<◌, List, length, Result, Err, ◌⊎◌, slice_index_or}
use mathlib.Core.List.{IsPrefix}
use Rattle.rows.specs.declared.commit.Commit.{Commit}
use Rattle.rows.specs.Shape.{Shape}
use Rattle.journal.specs.Recovery.{IsJournaled}
use Rattle.mvcc.specs.Transaction.{Transaction}
use Rattle.desk.specs.State.{SeatState}
use Rattle.sockets.specs.declared.doing.Attempt.{Attempt}
use Rattle.sockets.specs.declared.doing.Attempt.TheVariants as attempts
use Rattle.sockets.specs.declared.drafting.Stop.{Stop}
use Rattle.sockets.specs.declared.drafting.Stop.TheVariants as stops
use Rattle.sockets.specs.declared.job.Job.{Job}
use Rattle.sockets.specs.declared.job_answer.JobAnswer.{JobAnswer}
use Rattle.sockets.specs.declared.job_answer.JobAnswer.TheVariants.{Ticket, Conflict, Refused}
use Rattle.sockets.specs.declared.refusal.Refusal.{Refusal}
use Rattle.sockets.specs.declared.refusal.Refusal.TheVariants as refusals
use Rattle.sockets.specs.declared.step.Step.{Step}
use Rattle.sockets.specs.Answers.{IsRefused, IsJobAnswer}
use Rattle.sockets.specs.JobSeats.{IsPending}
use Rattle.sockets.specs.Work.{jobs_of}
use Rattle.sockets.specs.Worker.{WorkerState}

-- why a step with this answer was not taken: for the reason that it gives, or since nothing could be read or there was no memory
abbrev pub IsStop : Result Transaction Refusal → Stop → Type 0
IsStop answer (stops.Refused refusal) = (refusal ≡ refusals.Unread) ⊎ (answer ≡ Err refusal)
IsStop answer stops.Memory = Unit {0}

-- why a job has no transaction
abbrev pub IsStopped : Shape → ℕ → List Commit → List Step → Stop → Type 0
IsStopped shape from list steps (stops.Refused refusal) = IsRefused shape from list steps refusal
IsStopped shape from list steps stops.Memory = Unit {0}

-- an answer without a ticket
abbrev pub IsUncommitted : JobAnswer → Type 0
IsUncommitted (Ticket number) = ⊥
IsUncommitted (Conflict number) = Unit {0}
IsUncommitted (Refused refusal) = Unit {0}

-- what became of a job before it is durable
abbrev pub IsAttempt : Shape → ℕ → List Commit → Job → Attempt → Type 0
IsAttempt shape from list job (attempts.Pending ticket) = IsPending shape from list job ticket
IsAttempt shape from list job (attempts.Answered answer) = IsJobAnswer shape from list job answer × IsUncommitted answer

-- a seat after that
abbrev pub IsSeatTried : SeatState → SeatState → Attempt → Type 0
IsSeatTried old new (attempts.Pending ticket) =
    (old.last < ticket.number) × (new ≡ record old { list = new.list; last = ticket.number; share = old.share + 1 })
IsSeatTried old new (attempts.Answered answer) = new ≡ record old { list = new.list }

-- a worker whose seat has met another one
pub record HasMet (workers : ℕ) (shape : Shape) (old new : WorkerState) : Type 0 where
  pub legal : IsJournaled workers shape new.seat.list
  pub later : IsPrefix old.seat.list new.seat.list
  pub same : new ≡ record old { seat = record old.seat { list = new.seat.list } }

-- each worker of a crew has met others
abbrev pub EachMet : ℕ → Shape → List WorkerState → List WorkerState → Type 0
EachMet workers shape old new =
    (number : ℕ) (any : WorkerState) → number < length old
    → HasMet workers shape (slice_index_or old number any) (slice_index_or new number any)

-- each worker of a crew has an answer for each of its jobs
abbrev pub EachIsDone : List Job → List WorkerState → Type 0
EachIsDone jobs crew =
    (number : ℕ) (any : WorkerState) → number < length crew
    → length (slice_index_or crew number any).answers ≡ length (jobs_of number jobs)
