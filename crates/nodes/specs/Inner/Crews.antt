-- What answers of a crew's workers are told rest on.
use Rattle.std.specs.Prelude.{ℕ, ◌<◌, List, length, take, slice_index_or}
use Rattle.std.specs.List.{AllZip}
use Rattle.rows.specs.Shape.{Shape}
use Rattle.sockets.specs.declared.job.Job.{Job}
use Rattle.sockets.specs.Answers.{IsJobAnswer}
use Rattle.sockets.specs.Work.{jobs_of}
use Rattle.sockets.specs.Worker.{WorkerState}

-- the answers of each worker are those of its first jobs
abbrev pub AreFirst : Shape → List Job → List WorkerState → Type 0
AreFirst shape jobs crew =
    (number : ℕ) (any : WorkerState) → number < length crew
    → AllZip (IsJobAnswer shape 0 (slice_index_or crew number any).seat.list)
    (take (length (slice_index_or crew number any).answers) (jobs_of number jobs)) (slice_index_or crew number any).answers
