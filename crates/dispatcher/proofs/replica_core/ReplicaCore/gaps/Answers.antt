-- There are no more workers than there may be.
use Rattle.std.proofs.Common.{arith}
use Rattle.rows.specs.Limits.{workers_max}
use Rattle.dispatcher.proofs.Gapping.{pushed-below}
use Rattle.dispatcher.proofs.replica_core.ReplicaCore.gaps.Goals as goal

pub returns-in-Some-fetched-clause-of_workers : goal.returns-in-Some-fetched-clause-of_workers
returns-in-Some-fetched-clause-of_workers g c =
    pushed-below c.args.stride c.args.most workers_max c.self.inside.intake c.bases_at.result.now c.as_slice.result.now
    c.push_gaps.new.gaps.items
    c.args.gaps.now.items (omega (arith, c.self.invariant.arrivals_by_worker, c.self.invariant.few_workers)) c.requires.empty
    c.push_gaps.ensures.gaps
