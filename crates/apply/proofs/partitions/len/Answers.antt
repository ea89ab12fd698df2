-- Each partition adds its own.
use Rattle.std.proofs.Common.{◌%◌, length, sym, ◌∙◌, arith}
use Rattle.rows.specs.Tables.{Tables, rows_of}
use Rattle.apply.specs.Partitions.{tables_in}
use Rattle.apply.specs.Inner.Views.{views}
use Rattle.apply.proofs.Gathered.{length-tables}
use Rattle.apply.proofs.Splits.{from-partitions}
use Rattle.apply.proofs.Viewed.{sum-more, sum-whole}
use Rattle.apply.proofs.partitions.len.Goals as goal

pub loop-partition-preserved : goal.loop-partition-preserved
loop-partition-preserved c =
    let more =
    sum-more (λ (partition : Tables). length (rows_of partition c.args.table)) c.args.partitions.now c.loop-partition.partition-index
    c.partition-item.result
    c.loop-partition-test.true c.partition-item.is in
    record {
      value = omega (arith, more, c.loop-partition.invariant.value, c.len-rows.ensures.value);
      few = omega (arith, c.loop-partition.invariant.few, c.len-rows.ensures.few);
    }

pub returns : goal.returns
returns c =
    let partitions = views c.args.partitions.now in
    c.loop-partition.invariant.value
    ∙ sum-whole (λ (partition : Tables). length (rows_of partition c.args.table)) c.args.partitions.now c.loop-partition.partition-index
    c.loop-partition-test.false
    ∙ sym (length-tables (λ row. row % length partitions) (length (tables_in partitions)) 0 partitions c.args.table
    (from-partitions partitions c.requires.partitions))
