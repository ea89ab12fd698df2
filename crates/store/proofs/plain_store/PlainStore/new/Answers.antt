-- The tables of a schema have no rows, and no columns but those of the schema.
use Rattle.std.proofs.Common.{◌≡◌, [], sym, subst, ◌∙◌, rules}
use Rattle.std.proofs.lemmas.List.{map-id}
use Rattle.rows.specs.Shape.{shape_of}
use Rattle.rows.specs.Tables.{RowsAreOfKinds, opening}
use Rattle.store.specs.Changes.{BeganWith}
use Rattle.store.proofs.plain_store.PlainStore.new.Goals as goal

pub invariant_of-result : goal.invariant_of-result
invariant_of-result c =
    let shape = shape_of c.args.schema.now in
    let tables : c.in_ok-empty_tables.field-0.items ≡ opening shape =
    sym (map-id c.in_ok-empty_tables.field-0.items) ∙ c.in_ok-empty_tables.ensures in
    record {
      kinds = λ whole. subst RowsAreOfKinds (sym tables) (c.rows_are_of_kinds.ensures.versions shape [] 0);
      began = λ whole. let same : c.in_ok-clone.field-0 ≡ c.args.schema.now = search rules in
          subst (λ schema. BeganWith (shape_of schema) c.in_ok-empty_tables.field-0.items) (sym same)
          (subst (BeganWith shape) (sym tables) (c.first_columns_stay.ensures.opening shape));
    }
