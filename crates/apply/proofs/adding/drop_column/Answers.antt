-- One partition more has dropped it.
use Rattle.std.proofs.Common.{◌≡◌, ◌<◌, [], length, map, get_or, slice_set, sym, ap, subst, ◌∙◌, arith}
use Rattle.std.proofs.lemmas.List.{length-map, get_or-map}
use Rattle.rows.specs.Tables.{Tables, kinds_of}
use Rattle.apply.specs.declared.partition.Partition.{Partition}
use Rattle.apply.specs.Blocks.{dropped}
use Rattle.apply.specs.Inner.Views.{views}
use Rattle.apply.proofs.Viewed.{views-length, views-set}
use Rattle.apply.proofs.Widened.{mixed-at, mixed-more, mixed-all}
use Rattle.apply.proofs.adding.drop_column.Goals as goal

pub drop_column-requires : goal.drop_column-requires
drop_column-requires c =
    let table = c.args.table in
    let olds = views c.args.partitions.now in
    let narrow : Tables → Tables = λ tables. dropped tables table in
    let k = c.loop-k.k in
    let item = c.index-partitions-k.result in
    let few : k < length olds = omega (arith, c.loop-k-test.true, views-length c.args.partitions.now) in
    let here : get_or olds k [] ≡ (get_or c.loop-k.partitions k item).tables.items =
    sym (ap (λ all. get_or all k []) c.loop-k.invariant ∙ mixed-at k (map narrow olds) olds [] (length-map olds narrow) few)
    ∙ get_or-map (λ (partition : Partition). partition.tables.items) c.loop-k.partitions k item []
    (omega (arith, c.loop-k-test.true, c.loop-k.auto.partitions)) in
    subst (λ (tables : Tables). 1 < length (kinds_of tables table)) here
    (c.requires k [] (omega (arith, c.loop-k-test.true)))

pub loop-k-preserved : goal.loop-k-preserved
loop-k-preserved c =
    let table = c.args.table in
    let olds = views c.args.partitions.now in
    let narrow : Tables → Tables = λ tables. dropped tables table in
    let news = map narrow olds in
    let k = c.loop-k.k in
    let item = c.index-partitions-k.result in
    let many = length-map olds narrow in
    let few : k < length olds = omega (arith, c.loop-k-test.true, views-length c.args.partitions.now) in
    let here : (get_or c.loop-k.partitions k item).tables.items ≡ get_or olds k [] =
    sym (get_or-map (λ (partition : Partition). partition.tables.items) c.loop-k.partitions k item []
    (omega (arith, c.loop-k-test.true, c.loop-k.auto.partitions)))
    ∙ ap (λ all. get_or all k []) c.loop-k.invariant ∙ mixed-at k news olds [] many few in
    views-set c.loop-k.partitions k c.drop_column.new.self
    ∙ ap (λ all. slice_set all k c.drop_column.new.self.tables.items) c.loop-k.invariant
    ∙ mixed-more k news olds [] c.drop_column.new.self.tables.items many few
    (c.drop_column.ensures ∙ ap narrow here ∙ sym (get_or-map narrow olds k [] [] few))

pub returns-clause-tables : goal.returns-clause-tables
returns-clause-tables c =
    let olds = views c.args.partitions.now in
    let narrow : Tables → Tables = λ tables. dropped tables c.args.table in
    c.loop-k.invariant
    ∙ mixed-all c.loop-k.k (map narrow olds) olds (length-map olds narrow)
    (omega (arith, c.loop-k-test.false, views-length c.args.partitions.now))
