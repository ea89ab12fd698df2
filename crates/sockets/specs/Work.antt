-- How far a worker came with its jobs.
use Rattle.std.specs.Prelude.{◌≡◌, ℕ, ◌+◌, ◌<◌, ◌≤◌, List, [], ◌∷◌, length, take, Option, None, Some, ◌==◌, if◌then◌else◌}
use Rattle.std.specs.List.{filter, AllZip}
use mathlib.Core.List.{IsPrefix}
use Rattle.rows.specs.Shape.{Shape}
use Rattle.journal.specs.Recovery.{IsJournaled}
use Rattle.sockets.specs.declared.faults.WorkersFault.{WorkersFault}
use Rattle.sockets.specs.declared.faults.WorkersFault.TheVariants.{NoSeat}
use Rattle.sockets.specs.declared.job.Job.{Job}
use Rattle.sockets.specs.declared.job_answer.JobAnswer.{JobAnswer}
use Rattle.sockets.specs.declared.job_answer.JobAnswer.TheVariants.{Ticket, Conflict, Refused}
use Rattle.sockets.specs.Answers.{IsJobAnswer}
use Rattle.sockets.specs.Worker.{WorkerState}

-- the jobs of the worker of that number, in their order
abbrev pub jobs_of : ℕ → List Job → List Job
jobs_of number jobs = filter (λ job. job.worker == number) jobs

-- the answers of that worker's jobs, among those of all jobs
abbrev pub answers_of : ℕ → List Job → List JobAnswer → List JobAnswer
answers_of number [] answers = []
answers_of number (job ∷ jobs) [] = []
answers_of number (job ∷ jobs) (answer ∷ answers) =
    if job.worker == number then answer ∷ answers_of number jobs answers else answers_of number jobs answers

-- how many of these answers are tickets
abbrev pub ticket_count : List JobAnswer → ℕ
ticket_count [] = 0
ticket_count (Ticket number ∷ answers) = ticket_count answers + 1
ticket_count (Conflict number ∷ answers) = ticket_count answers
ticket_count (Refused refusal ∷ answers) = ticket_count answers

-- the number of the last ticket among these answers, or `last` if there is none
abbrev pub last_ticket : ℕ → List JobAnswer → ℕ
last_ticket last [] = last
last_ticket last (Ticket number ∷ answers) = last_ticket number answers
last_ticket last (Conflict number ∷ answers) = last_ticket last answers
last_ticket last (Refused refusal ∷ answers) = last_ticket last answers

-- each ticket among these answers is above the one before, and the first is above `last`
abbrev pub IsRising : ℕ → List JobAnswer → Type 0
IsRising last [] = Unit {0}
IsRising last (Ticket number ∷ answers) = (last < number) × IsRising number answers
IsRising last (Conflict number ∷ answers) = IsRising last answers
IsRising last (Refused refusal ∷ answers) = IsRising last answers

-- how many commits of a worker share a flush, at most
abbrev pub shared_jobs_max : ℕ
shared_jobs_max = 1024

-- how many tickets more a worker may have got than it answered: none, unless a fault ended it while their commits were pending
abbrev pub unanswered_max : Option WorkersFault → ℕ
unanswered_max None = 0
unanswered_max (Some fault) = shared_jobs_max

-- how far the worker of that number came with its jobs, at its seat
pub record HasWorked (workers : ℕ) (shape : Shape) (number : ℕ) (jobs : List Job) (old new : WorkerState) : Type 0 where
  -- the list that its seat has seen is legal, and begins with the one before
  pub legal : IsJournaled workers shape new.seat.list
  pub later : IsPrefix old.seat.list new.seat.list
  -- its answers are those of its first jobs, and of all unless it ended by a fault
  pub few : length new.answers ≤ length (jobs_of number jobs)
  pub answered : AllZip (IsJobAnswer shape (length old.seat.list) new.seat.list) (take (length new.answers) (jobs_of number jobs))
      new.answers
  pub whole : new.fault ≡ None → length new.answers ≡ length (jobs_of number jobs)
  -- its tickets rise, and its seat got no others, but for those of commits that were pending when a fault ended it, which are not
  -- acknowledged
  pub rising : IsRising old.seat.last new.answers
  pub newest : last_ticket old.seat.last new.answers ≤ new.seat.last
  pub got : old.seat.share + ticket_count new.answers ≤ new.seat.share
  pub no_more : new.seat.share ≤ old.seat.share + ticket_count new.answers + unanswered_max new.fault
  pub number_kept : new.seat.number ≡ old.seat.number
  pub fault : ¬ (new.fault ≡ Some NoSeat)
