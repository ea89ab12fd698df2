-- One more.
use Rattle.std.proofs.Common.{◌∷◌, [], ◌++◌, replicate, ap, ◌∙◌, arith}
use Rattle.std.proofs.lemmas.List.{replicate_more, map-append}
use Rattle.rows.specs.Shape.{shape_of}
use Rattle.rows.specs.Tables.{opening}
use Rattle.apply.specs.declared.partition.Partition.{Partition}
use Rattle.apply.specs.Inner.Views.{views}
use Rattle.apply.proofs.partitions.empty_partitions.Goals as goal

pub loop-preserved : goal.loop-preserved
loop-preserved c =
    let start = opening (shape_of c.args.schema.now) in
    record {
      partitions = ap views c.in_ok-push.ensures.items
          ∙ map-append (λ (partition : Partition). partition.tables.items) c.loop.partitions.items (c.in_ok-new.field-0 ∷ [])
          ∙ ap (λ front. front ++ c.in_ok-new.field-0.tables.items ∷ []) c.loop.invariant.partitions
          ∙ ap (λ tables. replicate c.loop.counter start ++ tables ∷ []) c.in_ok-new.ensures
          ∙ replicate_more c.loop.counter start;
      few = omega arith;
    }
