-- The jobs and the places so far are those of what was taken.
use Rattle.std.proofs.Common.{◌≡◌}
use Rattle.std.specs.Prelude.{map}
use Rattle.nodes.specs.Lines.{job_in, place_in}
use Rattle.nodes.proofs.waiting.parted.Given as goal

abbrev pub invariant-loop-job : goal.invariant-loop-job
invariant-loop-job l = record {
  jobs : l.jobs.items ≡ map job_in l.yielded;
  places : l.places.items ≡ map place_in l.yielded;
  can_next : (goal.iterator-loop-job).can_next l.job-iterator;
  is_finite : (goal.iterator-loop-job).is_finite l.job-iterator;
}
