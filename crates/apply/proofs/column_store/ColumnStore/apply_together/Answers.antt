-- What held of the partitions still holds, if the commits were applied.
use Rattle.std.proofs.Common.{◌≡◌, true, length, List, Result, Ok, Err, OnOk, sym, ap, subst, ◌∙◌, arith}
use Rattle.std.specs.Result.{is_ok}
use Rattle.std.proofs.lemmas.Bool.{false≢true}
use Rattle.rows.specs.Shape.{shape_of}
use Rattle.rows.specs.Tables.{Tables, RowsAreOfKinds}
use Rattle.store.specs.Changes.{BeganWith}
use Rattle.apply.specs.declared.partition.Partition.{Partition}
use Rattle.apply.specs.Partitions.{tables_in}
use Rattle.apply.specs.Inner.Gathered.{ArePartitions}
use Rattle.apply.specs.Inner.Views.{views}
use Rattle.apply.proofs.Cleared.{in-place}
use Rattle.apply.proofs.column_store.ColumnStore.apply_together.Goals as goal

if-ok : {T E : Type 0} (result : Result T E) (P : Type 0) → OnOk result P → is_ok result ≡ true → P
if-ok (Ok value) P holds ok = holds
if-ok (Err fault) P holds ok = absurd (false≢true ok)

pub invariant_of-self : goal.invariant_of-self
invariant_of-self g c =
    let olds = c.self.inside.partitions.items in
    let before = c.deref_mut.result.now in
    let news = c.apply_in_threads-applied.new.partitions in
    let applied = c.apply_in_threads-applied.result in
    let shape = shape_of c.self.inside.schema in
    let same = ap views c.deref_mut.ensures.value in
    let many = c.apply_in_threads-applied.ensures.len ∙ ap length c.deref_mut.ensures.value in
    let all = in-place olds news c.self.inside.partitions.len (sym (ap length c.deref_mut.ensures.value) ∙ c.deref_mut.ensures.len) many in
    let count = ap length all ∙ many in
    record {
      some = omega (arith, count, c.self.invariant.some);
      few = omega (arith, count, c.self.invariant.few);
      partitions = λ whole.
          let ok : is_ok applied ≡ true = cc in
          subst (λ (all : List Partition). ArePartitions (views all)) (sym all)
          (if-ok applied _ c.apply_in_threads-applied.ensures.partitions ok);
      kinds = λ whole.
          let ok : is_ok applied ≡ true = cc in
          subst (λ (all : List Partition). RowsAreOfKinds (tables_in (views all))) (sym all)
          (c.rows_are_of_kinds.ensures.commits (tables_in (views before)) (tables_in (views news)) c.args.commits.now
          (subst (λ (all : List Tables). RowsAreOfKinds (tables_in all)) (sym same) (c.self.invariant.kinds c.if-not-self.false))
          (if-ok applied _ c.apply_in_threads-applied.ensures.ok ok));
      began = λ whole.
          let ok : is_ok applied ≡ true = cc in
          subst (λ (all : List Partition). BeganWith shape (tables_in (views all))) (sym all)
          (c.first_columns_stay.ensures.commits shape (tables_in (views before)) (tables_in (views news)) c.args.commits.now
          (subst (λ (all : List Tables). BeganWith shape (tables_in all)) (sym same) (c.self.invariant.began c.if-not-self.false))
          (if-ok applied _ c.apply_in_threads-applied.ensures.ok ok));
    }
