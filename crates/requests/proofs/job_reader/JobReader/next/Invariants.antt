-- The dialect stays.
use Rattle.std.proofs.Common.{◌≡◌}
use Rattle.requests.specs.Readers.{dialect_of}
use Rattle.requests.proofs.job_reader.JobReader.next.Given as goal

abbrev pub invariant-loop : goal.invariant-loop
invariant-loop g l = dialect_of l.self ≡ dialect_of l.fn.self
