-- Partitions without rows.
use Rattle.std.proofs.Common.{◌≡◌, [], length, sym, subst, arith, rules}
use Rattle.rows.specs.Shape.{shape_of}
use Rattle.rows.specs.Tables.{RowsAreOfKinds}
use Rattle.store.specs.Changes.{BeganWith}
use Rattle.apply.specs.Partitions.{tables_in}
use Rattle.apply.specs.Inner.Views.{views}
use Rattle.apply.proofs.Viewed.{opens, views-length}
use Rattle.apply.proofs.column_store.ColumnStore.new.Goals as goal

pub invariant_of-result : goal.invariant_of-result
invariant_of-result c =
    let partitions = c.in_ok-empty_partitions.field-0.items in
    let shape = shape_of c.args.schema.now in
    let at = opens (views partitions) shape c.args.partitions c.requires.some c.in_ok-empty_partitions.ensures in
    let many : length partitions ≡ c.args.partitions = omega (arith, at.0, views-length partitions) in
    record {
      some = omega (arith, many, c.requires.some);
      few = omega (arith, many, c.requires.few);
      partitions = λ whole. at.2;
      kinds = λ whole. subst RowsAreOfKinds (sym at.1) (c.rows_are_of_kinds.ensures.versions shape [] 0);
      began = λ whole.
          let same : c.in_ok-clone.field-0 ≡ c.args.schema.now = search rules in
          subst (λ schema. BeganWith (shape_of schema) (tables_in (views partitions))) (sym same)
          (subst (BeganWith shape) (sym at.1) (c.first_columns_stay.ensures.opening shape));
    }

pub returns-clause-tables : goal.returns-clause-tables
returns-clause-tables c =
    (opens (views c.in_ok-empty_partitions.field-0.items) (shape_of c.args.schema.now) c.args.partitions c.requires.some
    c.in_ok-empty_partitions.ensures).1

pub returns-clause-partitions : goal.returns-clause-partitions
returns-clause-partitions c =
    (opens (views c.in_ok-empty_partitions.field-0.items) (shape_of c.args.schema.now) c.args.partitions c.requires.some
    c.in_ok-empty_partitions.ensures).0
