-- Tickets that are settled, what a job was told, and why a worker ended.
use Rattle.std.specs.Prelude.{◌≡◌, ℕ, ◌<◌, ◌≤◌, List, [], ◌∷◌, ◌++◌, length, take, map, slice_index_or}
use Rattle.std.specs.Prelude.{Option, None, Some, Result, Ok, Err}
use Rattle.rows.specs.declared.commit.Commit.{Commit}
use Rattle.primary.specs.declared.ticket.Ticket.{Ticket}
use Rattle.desk.specs.Answers.{Stands}
use Rattle.sockets.specs.declared.faults.WorkersFault.{WorkersFault}
use Rattle.sockets.specs.declared.job.Job.{Job}
use Rattle.sockets.specs.declared.job_answer.JobAnswer.{JobAnswer}
use Rattle.sockets.specs.JobSeats.{ticket_answer}

-- so many of these tickets were settled, and are answered after the answers before
pub record AreSettled (count : ℕ) (tickets : List Ticket) (list : List Commit) (old new : List JobAnswer) : Type 0 where
  pub within : count ≤ length tickets
  pub stand : (k : ℕ) (any : Ticket) → k < count → Stands list (slice_index_or tickets k any)
  pub kept : new ≡ old ++ map ticket_answer (take count tickets)

-- the answer that a job was told, if it was
abbrev pub told_of : Option JobAnswer → List JobAnswer
told_of None = []
told_of (Some answer) = answer ∷ []

-- a job that was taken if it was told an answer
abbrev pub taken_of : Job → Option JobAnswer → List Job
taken_of job None = []
taken_of job (Some answer) = job ∷ []

-- why a worker ended that took its jobs and settled what was pending: the first fault of these two
abbrev pub fault_of : {A B : Type 0} → Result A WorkersFault → Result B WorkersFault → Option WorkersFault
fault_of (Ok taken) (Ok settled) = None
fault_of (Ok taken) (Err fault) = Some fault
fault_of (Err fault) settled = Some fault
