-- The queries so far were offered, and the others are left.
use Rattle.std.proofs.Common.{◌≡◌, ◌++◌}
use Rattle.sockets.specs.Inner.Steps.{Opens}
use Rattle.sockets.proofs.replica_node.open_all.Given as goal

abbrev pub invariant-loop-plan : goal.invariant-loop-plan
invariant-loop-plan g l = record {
  opens : Opens l.fn.replica l.replica l.yielded;
  whole : l.yielded ++ l.plan-iterator.rest.items ≡ l.fn.plans.items;
}
