-- What a crew of workers has done, of which each has the number of its place.
use Rattle.std.specs.Prelude.{◌≡◌, ℕ, ◌<◌, List, [], ◌∷◌, length, Some, slice_index_or}
use Rattle.std.specs.List.{AllZip, Any, All}
use mathlib.Core.List.{IsPrefix}
use Rattle.rows.specs.declared.commit.Commit.{Commit}
use Rattle.rows.specs.Shape.{Shape}
use Rattle.journal.specs.Recovery.{IsJournaled}
use Rattle.sockets.specs.declared.faults.WorkersFault.{WorkersFault}
use Rattle.sockets.specs.declared.faults.WorkersFault.TheVariants.{Journal, Memory, NoSeat}
use Rattle.sockets.specs.declared.job.Job.{Job}
use Rattle.sockets.specs.declared.job_answer.JobAnswer.{JobAnswer}
use Rattle.sockets.specs.Answers.{IsJobAnswer}
use Rattle.sockets.specs.Work.{HasWorked, IsRising, answers_of}
use Rattle.sockets.specs.Worker.{WorkerState}

-- each worker has worked
abbrev pub EachWorked : ℕ → Shape → List Job → List WorkerState → List WorkerState → Type 0
EachWorked workers shape jobs old new =
    (number : ℕ) (any : WorkerState) → number < length old
    → HasWorked workers shape number jobs (slice_index_or old number any) (slice_index_or new number any)

-- the list that the first worker's seat has seen; none, if there is no worker
abbrev pub first_list : List WorkerState → List Commit
first_list [] = []
first_list (worker ∷ crew) = worker.seat.list

-- the first worker's seat has seen all that any seat has
abbrev pub FirstHasSeenAll : List WorkerState → Type 0
FirstHasSeenAll crew = All (λ worker. IsPrefix worker.seat.list (first_list crew)) crew

-- why a run ended: the first in the order of the faults by which a worker did
abbrev pub IsFirstFault : List WorkerState → WorkersFault → Type 0
IsFirstFault crew Journal = Any (λ worker. worker.fault ≡ Some Journal) crew
IsFirstFault crew Memory =
    Any (λ worker. worker.fault ≡ Some Memory) crew × All (λ worker. ¬ (worker.fault ≡ Some Journal)) crew
IsFirstFault crew NoSeat = ⊥

-- the answers of each worker's jobs, among those of all jobs, are its own
abbrev pub EachHasAnswered : List Job → List WorkerState → List JobAnswer → Type 0
EachHasAnswered jobs crew answers =
    (number : ℕ) (any : WorkerState) → number < length crew
    → answers_of number jobs answers ≡ (slice_index_or crew number any).answers

-- what all jobs were answered, one answer each, in their order: each ticket stands in this one list, and those of each worker rise,
-- so that no two jobs have one ticket
pub record AreAnswered (workers : ℕ) (shape : Shape) (first list : List Commit) (jobs : List Job) (answers : List JobAnswer) : Type 0 where
  pub legal : IsJournaled workers shape list
  pub later : IsPrefix first list
  pub answered : AllZip (IsJobAnswer shape (length first) list) jobs answers
  pub rising : (worker : ℕ) → IsRising 0 (answers_of worker jobs answers)
