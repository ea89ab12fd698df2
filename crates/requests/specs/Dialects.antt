-- What the lines and jobs of a dialect may have.
use Rattle.std.specs.Prelude.{◌≡◌, Bool, true, not}
use Rattle.sockets.specs.Changes.{is_condition}
use Rattle.sockets.specs.declared.step.Step.{Step}
use Rattle.requests.specs.declared.dialect.Dialect.{Dialect}
use Rattle.requests.specs.declared.dialect.Dialect.TheVariants.{Jobs, Live}
use Rattle.requests.specs.declared.job_line.JobLine.{JobLine}
use Rattle.requests.specs.declared.job_line.JobLine.TheVariants as lines

-- whether jobs may have a step: conditions are those of live jobs
abbrev pub has_step : Dialect → Step → Bool
has_step Live step = true
has_step Jobs step = not (is_condition step)

-- a line that a dialect may have: looks and bases are those of live jobs, too
abbrev pub IsLineOf : Dialect → JobLine → Type 0
IsLineOf dialect (lines.Step step) = has_step dialect step ≡ true
IsLineOf dialect (lines.Get table row column) = dialect ≡ Live
IsLineOf dialect lines.Base = dialect ≡ Live
IsLineOf dialect other = Unit {0}
