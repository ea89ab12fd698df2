-- A seat at which jobs share flushes, and how far they came.
use Rattle.std.specs.Prelude.{◌≡◌, ℕ, ◌+◌, ◌<◌, ◌≤◌, List, ◌++◌, length, map}
use Rattle.std.specs.List.{AllZip}
use mathlib.Core.List.{IsPrefix}
use Rattle.rows.specs.declared.commit.Commit.{Commit}
use Rattle.rows.specs.Shape.{Shape}
use Rattle.journal.specs.Recovery.{IsJournaled}
use Rattle.mvcc.specs.Transaction.{Transaction}
use Rattle.primary.specs.declared.ticket.Ticket.{Ticket}
use Rattle.desk.specs.State.{SeatState}
use Rattle.sockets.specs.declared.job.Job.{Job}
use Rattle.sockets.specs.declared.job_answer.JobAnswer.{JobAnswer}
use Rattle.sockets.specs.declared.job_answer.JobAnswer.TheVariants as answers
use Rattle.sockets.specs.Answers.{IsDraft, IsJobAnswer}
use Rattle.sockets.specs.Work.{ticket_count, last_ticket, IsRising, shared_jobs_max}

-- a seat at which jobs are done: the answers of the first ones, and the tickets of those after them, whose commits are pending
pub record JobSeatState : Type 0 where
  pub seat : SeatState
  pub answers : List JobAnswer
  pub pending : List Ticket

-- the answer of a job whose commit is settled
abbrev pub ticket_answer : Ticket → JobAnswer
ticket_answer ticket = answers.Ticket ticket.number

-- the answers of all jobs so far, if the commits that are pending are settled
abbrev pub outcomes : JobSeatState → List JobAnswer
outcomes s = s.answers ++ map ticket_answer s.pending

-- the ticket of a job whose commit is pending: it is of the job's worker, has the entries that the job's steps make, and is above their
-- snapshot
pub record IsPending (shape : Shape) (from : ℕ) (list : List Commit) (job : Job) (ticket : Ticket) : Type 0 where
  pub draft : Transaction
  pub drafted : IsDraft shape from list job.steps.items draft
  pub above : draft.snapshot < ticket.number
  pub worker : ticket.worker ≡ job.worker
  pub entries : ticket.entries ≡ draft.entries

-- jobs were taken at a seat that was in this state before the first of them, which got so many tickets more that are lost
pub record HasTaken (workers : ℕ) (shape : Shape) (lost : ℕ) (first : SeatState) (jobs : List Job) (s : JobSeatState) : Type 0 where
  pub legal : IsJournaled workers shape s.seat.list
  pub later : IsPrefix first.list s.seat.list
  -- the first jobs are answered, and the commits of the others are pending
  pub done : List Job
  pub waiting : List Job
  pub split : jobs ≡ done ++ waiting
  pub answered : AllZip (IsJobAnswer shape (length first.list) s.seat.list) done s.answers
  pub committed : AllZip (IsPending shape (length first.list) s.seat.list) waiting s.pending
  pub rising : IsRising first.last (outcomes s)
  pub newest : last_ticket first.last (outcomes s) ≤ s.seat.last
  pub share : s.seat.share ≡ first.share + ticket_count (outcomes s) + lost
  pub number : s.seat.number ≡ first.number
  pub few : length s.pending + lost ≤ shared_jobs_max

-- after jobs were taken, these more are
abbrev pub GoesOn : ℕ → Shape → ℕ → List Job → JobSeatState → JobSeatState → Type 0
GoesOn workers shape lost more old new =
    (first : SeatState) (jobs : List Job) → HasTaken workers shape lost first jobs old
    → HasTaken workers shape lost first (jobs ++ more) new

-- the first of these jobs were taken, and a fault ended the others
pub record HasEnded (workers : ℕ) (shape : Shape) (first : SeatState) (jobs : List Job) (s : JobSeatState) : Type 0 where
  pub begun : List Job
  pub begins : IsPrefix begun jobs
  pub lost : ℕ
  pub taken : HasTaken workers shape lost first begun s

-- after jobs were taken, a fault ended the rest of them and of these more
abbrev pub Ends : ℕ → Shape → ℕ → List Job → JobSeatState → JobSeatState → Type 0
Ends workers shape lost more old new =
    (first : SeatState) (jobs : List Job) → HasTaken workers shape lost first jobs old → HasEnded workers shape first (jobs ++ more) new
