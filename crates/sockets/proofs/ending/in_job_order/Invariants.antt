-- The jobs so far are answered by the first answers of their workers, and each worker's next answer is the one behind these.
use Rattle.std.proofs.Common.{◌≡◌, ℕ, ◌<◌, ◌≤◌, length, get_or, take}
use Rattle.std.specs.Vec.{vec_capacity, vec_len}
use Rattle.sockets.specs.Work.{jobs_of, answers_of}
use Rattle.sockets.specs.Worker.{WorkerState}
use Rattle.sockets.proofs.ending.in_job_order.Given as goal

abbrev pub invariant-loop-job : goal.invariant-loop-job
invariant-loop-job g l = record {
  room : length l.jobs ≤ vec_capacity l.answers;
  count : length l.answers.items ≡ l.job-index;
  counters : vec_len l.next ≡ length l.crew;
  next : (worker : ℕ) → worker < length l.crew → get_or l.next.items worker 0 ≡ length (jobs_of worker (take l.job-index l.jobs));
  answered : (worker : ℕ) (any : WorkerState) → worker < length l.crew
      → answers_of worker (take l.job-index l.jobs) l.answers.items
      ≡ take (length (jobs_of worker (take l.job-index l.jobs))) (get_or l.crew worker any).answers;
}
