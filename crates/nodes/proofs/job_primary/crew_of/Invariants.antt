-- No worker so far has answered anything.
use Rattle.std.proofs.Common.{◌≡◌, [], All}
use Rattle.nodes.proofs.job_primary.crew_of.Given as goal

abbrev pub invariant-loop : goal.invariant-loop
invariant-loop g l = All (λ worker. worker.answers ≡ []) l.crew.items
