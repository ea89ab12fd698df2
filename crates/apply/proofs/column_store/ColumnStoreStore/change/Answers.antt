-- What held of the partitions still holds.
use Rattle.std.proofs.Common.{length, List, sym, ap, subst, ◌∙◌, arith}
use Rattle.rows.specs.Shape.{shape_of}
use Rattle.rows.specs.Tables.{RowsAreOfKinds}
use Rattle.store.specs.Changes.{BeganWith}
use Rattle.apply.specs.declared.partition.Partition.{Partition}
use Rattle.apply.specs.Partitions.{tables_in}
use Rattle.apply.specs.Inner.Gathered.{ArePartitions}
use Rattle.apply.specs.Inner.Views.{views}
use Rattle.apply.proofs.Cleared.{in-place, still-holds}
use Rattle.apply.proofs.column_store.ColumnStoreStore.change.Goals as goal

pub invariant_of-self : goal.invariant_of-self
invariant_of-self c =
    let olds = c.self.inside.partitions.items in
    let before = c.deref_mut.result.now in
    let news = c.change_partitions.new.partitions in
    let shape = shape_of c.self.inside.schema in
    let same = ap views c.deref_mut.ensures.value in
    let many = c.change_partitions.ensures.len ∙ ap length c.deref_mut.ensures.value in
    let all = in-place olds news c.self.inside.partitions.len (sym (ap length c.deref_mut.ensures.value) ∙ c.deref_mut.ensures.len) many in
    let count = ap length all ∙ many in
    record {
      some = omega (arith, count, c.self.invariant.some);
      few = omega (arith, count, c.self.invariant.few);
      partitions = λ whole. subst (λ (all : List Partition). ArePartitions (views all)) (sym all) c.change_partitions.ensures.partitions;
      kinds = λ whole. subst (λ (all : List Partition). RowsAreOfKinds (tables_in (views all))) (sym all)
          (still-holds RowsAreOfKinds c.change_partitions.result _ (views olds) (views before) (views news) same
          c.change_partitions.ensures.ok c.change_partitions.ensures.err (c.self.invariant.kinds whole)
          (c.rows_are_of_kinds.ensures.entry (tables_in (views before)) (tables_in (views news)) c.args.entry.now));
      began = λ whole. subst (λ (all : List Partition). BeganWith shape (tables_in (views all))) (sym all)
          (still-holds (BeganWith shape) c.change_partitions.result _ (views olds) (views before) (views news) same
          c.change_partitions.ensures.ok c.change_partitions.ensures.err (c.self.invariant.began whole)
          (c.first_columns_stay.ensures.entry shape (tables_in (views before)) (tables_in (views news)) c.args.entry.now));
    }
