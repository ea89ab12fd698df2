-- How far jobs were taken.
use Rattle.std.specs.Prelude.{◌≡◌, ℕ, List, ◌++◌, length, take}
use Rattle.rows.specs.Shape.{Shape}
use Rattle.sockets.specs.declared.job.Job.{Job}
use Rattle.sockets.specs.declared.job_answer.JobAnswer.{JobAnswer}
use Rattle.sockets.specs.JobSeats.{JobSeatState, GoesOn, outcomes}
use Rattle.gateway.specs.declared.taking.Taken.{Taken}
use Rattle.gateway.specs.declared.taking.Taken.TheVariants as takens

-- these jobs were taken, and are told these answers
abbrev pub AreTaken : ℕ → Shape → List Job → JobSeatState → JobSeatState → List JobAnswer → Type 0
AreTaken workers shape jobs old new told =
    GoesOn workers shape 0 jobs old new × (outcomes new ≡ outcomes old ++ told) × (length told ≡ length jobs)

-- how far they were taken
abbrev pub HasTaken : ℕ → Shape → List Job → JobSeatState → JobSeatState → List JobAnswer → Taken → Type 0
HasTaken workers shape jobs old new told takens.All = AreTaken workers shape jobs old new told
HasTaken workers shape jobs old new told (takens.Failed fault) = (n : ℕ) × AreTaken workers shape (take n jobs) old new told
HasTaken workers shape jobs old new told (takens.Lost fault) = Unit {0}
