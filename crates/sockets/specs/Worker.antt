-- A worker, as its callers see it.
use Rattle.std.specs.Prelude.{List, Option}
use Rattle.desk.specs.State.{SeatState}
use Rattle.sockets.specs.declared.faults.WorkersFault.{WorkersFault}
use Rattle.sockets.specs.declared.job_answer.JobAnswer.{JobAnswer}

-- a worker: its seat, what its first jobs were answered, and why it ended
pub record WorkerState : Type 0 where
  pub seat : SeatState
  -- what its first jobs were answered, in their order
  pub answers : List JobAnswer
  -- why it ended before its last job
  pub fault : Option WorkersFault
