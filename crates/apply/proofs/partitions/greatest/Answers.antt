-- The greater of what was before and the partition's own.
use Rattle.std.proofs.Common.{arith}
use Rattle.apply.proofs.Viewed.{most-more}
use Rattle.apply.proofs.partitions.greatest.Goals as goal
use Rattle.apply.proofs.partitions.greatest.Goals.{then-most-other, else-most-other}

pub loop-partition-preserved : goal.loop-partition-preserved
loop-partition-preserved c =
    most-more c.args.partitions.now c.args.table c.loop-partition.partition-index c.loop-partition.most c.greatest-other.result
    c.if-most-other.most
    c.partition-item.result c.loop-partition-test.true c.partition-item.is
    (elim c.if-most-other.branch [ then-most-other w ↦ omega arith | else-most-other w ↦ omega arith ])
    (elim c.if-most-other.branch [ then-most-other w ↦ omega arith | else-most-other w ↦ omega arith ])
    c.loop-partition.invariant c.greatest-other.ensures
