-- What readers of jobs hand out.
use Rattle.std.specs.Prelude.{◌≡◌, ℕ, ◌<◌, true, length}
use Rattle.std.specs.List.{list_all}
use Rattle.script.specs.declared.setup.Setup.{Setup}
use Rattle.requests.specs.declared.dialect.Dialect.{Dialect}
use Rattle.requests.specs.declared.dialect.Dialect.TheVariants.{Live}
use Rattle.requests.specs.declared.request.Request.{Request}
use Rattle.requests.specs.declared.request.Request.TheVariants as requests
use Rattle.requests.specs.declared.request.Requested.{Requested}
use Rattle.requests.specs.declared.request.Requested.TheVariants as answers
use Rattle.requests.specs.Dialects.{has_step}

-- a request that the lines of a dialect may make, with so many workers: a job has a worker that is there, steps of the
-- dialect and a line for each of them, and looks and bases are those of live jobs
abbrev pub IsRequestOf : ℕ → Dialect → Request → Type 0
IsRequestOf workers dialect (requests.Job job line step_lines) =
    (job.worker < workers) × (list_all (has_step dialect) job.steps.items ≡ true) × (length step_lines.items ≡ length job.steps.items)
IsRequestOf workers dialect (requests.Get table row column line) = dialect ≡ Live
IsRequestOf workers dialect (requests.Base line) = dialect ≡ Live

-- an answer that such lines may give
abbrev pub IsRequested : Setup → Dialect → Requested → Type 0
IsRequested setup dialect (answers.Request request) = IsRequestOf setup.workers dialect request
IsRequested setup dialect other = Unit {0}
