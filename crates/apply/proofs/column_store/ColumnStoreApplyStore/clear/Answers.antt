-- Each partition is as at the opening.
use Rattle.std.proofs.Common.{List, [], length, get_or, replicate, sym, ap, subst, ◌∙◌, arith}
use Rattle.rows.specs.Shape.{shape_of}
use Rattle.rows.specs.Tables.{Tables, RowsAreOfKinds, opening}
use Rattle.store.specs.Changes.{BeganWith}
use Rattle.apply.specs.declared.partition.Partition.{Partition}
use Rattle.apply.specs.Partitions.{ColumnState, tables_in}
use Rattle.apply.specs.Inner.Gathered.{ArePartitions}
use Rattle.apply.specs.Inner.Views.{views}
use Rattle.apply.proofs.Cleared.{began-alike, put-back}
use Rattle.apply.proofs.Viewed.{views-length}
use Rattle.apply.proofs.column_store.ColumnStoreApplyStore.clear.Goals as goal

pub clear_partitions-requires : goal.clear_partitions-requires
clear_partitions-requires c =
    let partitions = c.deref_mut.result.now in
    let shape = shape_of c.self.inside.schema in
    let same = ap views c.deref_mut.ensures.value in
    let are = subst ArePartitions (sym same) (c.self.invariant.partitions c.if-not-self.false) in
    let began = subst (λ (all : List Tables). BeganWith shape (tables_in all)) (sym same) (c.self.invariant.began c.if-not-self.false) in
    λ k d lt. began-alike shape (get_or (views partitions) k d) (tables_in (views partitions))
    (are.alike k d (omega (arith, lt, views-length partitions))) began

pub invariant_of-self : goal.invariant_of-self
invariant_of-self c =
    let olds = c.self.inside.partitions.items in
    let shape = shape_of c.self.inside.schema in
    let at = put-back olds c.clear_partitions.new.partitions c.self.inside.partitions.len shape
    (sym (ap length c.deref_mut.ensures.value) ∙ c.deref_mut.ensures.len) c.self.invariant.some
    (c.clear_partitions.ensures.len ∙ ap length c.deref_mut.ensures.value)
    (c.clear_partitions.ensures.tables
    ∙ ap (λ (partitions : List Partition). replicate (length partitions) (opening shape)) c.deref_mut.ensures.value) in
    record {
      some = omega (arith, at.0, c.self.invariant.some);
      few = omega (arith, at.0, c.self.invariant.few);
      partitions = λ whole. at.2;
      kinds = λ whole. subst RowsAreOfKinds (sym at.1) (c.rows_are_of_kinds.ensures.versions shape [] 0);
      began = λ whole. subst (BeganWith shape) (sym at.1) (c.first_columns_stay.ensures.opening shape);
    }

pub returns-clause-cleared : goal.returns-clause-cleared
returns-clause-cleared c = λ whole.
    let shape = shape_of c.self.inside.schema in
    let at = put-back c.self.inside.partitions.items c.clear_partitions.new.partitions c.self.inside.partitions.len shape
    (sym (ap length c.deref_mut.ensures.value) ∙ c.deref_mut.ensures.len) c.self.invariant.some
    (c.clear_partitions.ensures.len ∙ ap length c.deref_mut.ensures.value)
    (c.clear_partitions.ensures.tables
    ∙ ap (λ (partitions : List Partition). replicate (length partitions) (opening shape)) c.deref_mut.ensures.value) in
    at.1 ∙ ap (λ (state : ColumnState). opening state.base_shape) c.self.view_is
