-- One partition more is as at the opening.
use Rattle.std.proofs.Common.{◌≡◌, ◌<◌, [], length, replicate, get_or, slice_set, sym, ap, subst, ◌∙◌, arith}
use Rattle.std.proofs.lemmas.List.{length-replicate, get_or-replicate, get_or-map}
use Rattle.rows.specs.Shape.{shape_of}
use Rattle.rows.specs.Tables.{opening}
use Rattle.store.specs.Changes.{BeganWith}
use Rattle.apply.specs.declared.partition.Partition.{Partition}
use Rattle.apply.specs.Inner.Views.{views}
use Rattle.apply.proofs.Viewed.{views-length, views-set}
use Rattle.apply.proofs.Widened.{mixed-at, mixed-more, mixed-all}
use Rattle.apply.proofs.partitions.clear_partitions.Goals as goal

pub clear-requires : goal.clear-requires
clear-requires c =
    let shape = shape_of c.args.schema.now in
    let olds = views c.args.partitions.now in
    let count = length c.args.partitions.now in
    let news = replicate count (opening shape) in
    let k = c.loop-k.k in
    let item = c.index-partitions-k.result in
    let many : length news ≡ length olds = omega (arith, length-replicate count (opening shape), views-length c.args.partitions.now) in
    let few : k < length olds = omega (arith, c.loop-k-test.true, views-length c.args.partitions.now) in
    let here : get_or olds k [] ≡ (get_or c.loop-k.partitions k item).tables.items =
    sym (ap (λ all. get_or all k []) c.loop-k.invariant ∙ mixed-at k news olds [] many few)
    ∙ get_or-map (λ (partition : Partition). partition.tables.items) c.loop-k.partitions k item []
    (omega (arith, c.loop-k-test.true, c.loop-k.auto.partitions)) in
    subst (BeganWith shape) here (c.requires k [] (omega (arith, c.loop-k-test.true)))

pub loop-k-preserved : goal.loop-k-preserved
loop-k-preserved c =
    let start = opening (shape_of c.args.schema.now) in
    let olds = views c.args.partitions.now in
    let count = length c.args.partitions.now in
    let news = replicate count start in
    let k = c.loop-k.k in
    let many : length news ≡ length olds = omega (arith, length-replicate count start, views-length c.args.partitions.now) in
    let few : k < length olds = omega (arith, c.loop-k-test.true, views-length c.args.partitions.now) in
    views-set c.loop-k.partitions k c.clear.new.self
    ∙ ap (λ all. slice_set all k c.clear.new.self.tables.items) c.loop-k.invariant
    ∙ mixed-more k news olds [] c.clear.new.self.tables.items many few
    (c.clear.ensures ∙ sym (get_or-replicate count k start [] (omega (arith, c.loop-k-test.true))))

pub returns-clause-tables : goal.returns-clause-tables
returns-clause-tables c =
    let start = opening (shape_of c.args.schema.now) in
    let olds = views c.args.partitions.now in
    let count = length c.args.partitions.now in
    let many : length (replicate count start) ≡ length olds =
    omega (arith, length-replicate count start, views-length c.args.partitions.now) in
    c.loop-k.invariant
    ∙ mixed-all c.loop-k.k (replicate count start) olds many
    (omega (arith, c.loop-k-test.false, views-length c.args.partitions.now))
