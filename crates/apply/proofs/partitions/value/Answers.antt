-- The partition has the row, and a row as many values as its table has columns.
use Rattle.std.proofs.Common.{◌≡◌, ◌<◌, length, [], sym, ap, ◌∙◌, get_or, arith}
use Rattle.rows.specs.Shape.{kinds_in}
use Rattle.rows.specs.Tables.{Tables, rows_of, kinds_of}
use Rattle.apply.specs.Inner.Views.{views}
use Rattle.apply.proofs.Viewed.{views-get, views-length, spot-partition, spot-position, spot-columns}
use Rattle.apply.proofs.partitions.value.Goals as goal
use Rattle.apply.proofs.partitions.value.Goals.{In-Some}

partition-within : (c : In-Some) → c.args.spot.partition < length c.args.partitions.now
partition-within c =
    omega (
      arith,
      spot-partition (views c.args.partitions.now) c.args.table c.args.spot c.args.column c.requires.there,
      views-length
          c.args.partitions.now,
    )

own : (c : In-Some) → get_or (views c.args.partitions.now) c.args.spot.partition [] ≡ c.index-partitions-spot.result.tables.items
own c =
    views-get c.args.partitions.now c.args.spot.partition c.index-partitions-spot.result [] (partition-within c) c.index-partitions-spot.is

pub value-requires-clause-within : goal.value-requires-clause-within
value-requires-clause-within c =
    let at = spot-position (views c.args.partitions.now) c.args.table c.args.spot c.args.column c.requires.there in
    let rows = c.in-Some.ensures.rows ∙ ap (λ (tables : Tables). rows_of tables c.args.table) (sym (own c)) in
    omega (arith, at, ap length rows)

pub value-requires-clause-column : goal.value-requires-clause-column
value-requires-clause-column c =
    let partitions = views c.args.partitions.now in
    let few = spot-columns partitions c.args.table c.args.spot c.args.column c.requires.partitions c.requires.kinds c.requires.there in
    let kinds = c.in-Some.ensures.kinds ∙ ap (λ (tables : Tables). kinds_of tables c.args.table) (sym (own c))
    ∙ ap (λ shape. kinds_in shape c.args.table)
    (c.requires.partitions.alike c.args.spot.partition [] (omega (arith, partition-within c, views-length c.args.partitions.now))) in
    omega (arith, few, ap length kinds)
