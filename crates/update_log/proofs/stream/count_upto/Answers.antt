-- Where the frames of later commits begin, those before are counted.
use Rattle.std.proofs.Common.{rules}
use Rattle.std.specs.Prelude.{nat_le}
use Rattle.std.proofs.lemmas.List.Sorted.{IsPartitionPoint-from_clause}
use Rattle.update_log.specs.declared.span.Span.{Span}
use Rattle.update_log.proofs.Splitting.{count-split}
use Rattle.update_log.proofs.stream.count_upto.Goals as goal

pub returns : goal.returns
returns c front back split =
    let spans = c.args.spans.now in
    let version = c.args.version in
    count-split version spans front back c.partition_point.result split c.partition_point.ensures.bound
    (λ passes.
    IsPartitionPoint-from_clause (λ (span : Span). nat_le span.commit version) spans c.partition_point.result
    c.partition_point.ensures.partitioned passes (λ a r f' q. search rules))
