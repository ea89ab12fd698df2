-- What is left decides for all.
use Rattle.std.proofs.Common.{◌≡◌, map, drop}
use Rattle.queries.specs.Checking.{first, aggregate_fault}
use Rattle.queries.proofs.checking.aggregates_fault.Given as goal

abbrev pub invariant-loop-aggregate : goal.invariant-loop-aggregate
invariant-loop-aggregate l =
    first (map (aggregate_fault l.own l.joined) (drop l.aggregate-index l.aggregates))
    ≡ first (map (aggregate_fault l.own l.joined) l.aggregates)
