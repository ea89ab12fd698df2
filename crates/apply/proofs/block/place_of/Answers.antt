-- What the halving finds.
use Rattle.std.proofs.Common.{◌≤◌, length, ltb, rules}
use Rattle.std.proofs.lemmas.List.Sorted.{IsPartitionPoint-from_clause, IsPartitionedBy-ltb}
use Rattle.std.proofs.lemmas.Map.Keys.{non_decreasing_from_sorted}
use Rattle.apply.proofs.Ordered.{place-partition}
use Rattle.apply.proofs.block.place_of.Goals as goal

pub returns-clause-value : goal.returns-clause-value
returns-clause-value c =
    let ids = c.args.ids.now in
    let parted = IsPartitionedBy-ltb (λ id. id) ids c.args.row (non_decreasing_from_sorted ids c.requires) in
    let point =
    IsPartitionPoint-from_clause (λ id. ltb id c.args.row) _ _ c.partition_point.ensures.partitioned parted (λ a r q k. search rules) in
    let within : c.partition_point.result ≤ length ids = search rules in
    place-partition c.args.row ids c.partition_point.result within point
