-- Where the later versions begin.
use Rattle.std.proofs.Common.{None, rules}
use Rattle.std.specs.Prelude.{nat_le}
use Rattle.std.proofs.lemmas.List.Sorted.{IsPartitionedBy-leb, IsPartitionPoint-from_clause}
use Rattle.mvcc.specs.declared.link.Link.{Link}
use Rattle.mvcc.proofs.Links.{bytes-partition}
use Rattle.mvcc.proofs.chain.end_of.Goals as goal

pub returns-clause-before : goal.returns-clause-before
returns-clause-before c =
    let links = c.args.links.now in
    let version = c.args.version in
    let end =
    IsPartitionPoint-from_clause (λ (y : Link). nat_le y.version version) links c.partition_point.result
    c.partition_point.ensures.partitioned
    (IsPartitionedBy-leb (λ (link : Link). link.version) links version c.requires) (λ a r f' q. search rules) in
    bytes-partition version links c.partition_point.result None c.partition_point.ensures.bound end
