-- The tables are as at the opening.
use Rattle.std.proofs.Common.{[], length, sym, ap, subst, ◌∙◌}
use Rattle.std.proofs.lemmas.List.{map-id}
use Rattle.rows.specs.Shape.{shape_of}
use Rattle.rows.specs.Tables.{RowsAreOfKinds, opening}
use Rattle.store.specs.Changes.{BeganWith}
use Rattle.store.specs.State.{StoreState}
use Rattle.store.proofs.Cleared.{put-back}
use Rattle.store.proofs.plain_store.PlainStoreApplyStore.clear.Goals as goal

pub clear_tables-requires : goal.clear_tables-requires
clear_tables-requires c =
    subst (BeganWith (shape_of c.self.inside.schema)) (sym (map-id c.deref_mut.result.now ∙ c.deref_mut.ensures.value))
    (c.self.invariant.began c.if-not-self.false)

pub invariant_of-self : goal.invariant_of-self
invariant_of-self c =
    let shape = shape_of c.self.inside.schema in
    let all = put-back shape c.self.inside.tables.items c.clear_tables.new.tables c.self.inside.tables.len
    (sym (ap length c.deref_mut.ensures.value) ∙ c.deref_mut.ensures.len)
    (c.self.invariant.began c.if-not-self.false) (sym (map-id c.clear_tables.new.tables) ∙ c.clear_tables.ensures) in
    record {
      kinds = λ whole. subst RowsAreOfKinds (sym all) (c.rows_are_of_kinds.ensures.versions shape [] 0);
      began = λ whole. subst (BeganWith shape) (sym all) (c.first_columns_stay.ensures.opening shape);
    }

pub returns-clause-cleared : goal.returns-clause-cleared
returns-clause-cleared c = λ whole.
    let shape = shape_of c.self.inside.schema in
    let all = put-back shape c.self.inside.tables.items c.clear_tables.new.tables c.self.inside.tables.len
    (sym (ap length c.deref_mut.ensures.value) ∙ c.deref_mut.ensures.len)
    (c.self.invariant.began c.if-not-self.false) (sym (map-id c.clear_tables.new.tables) ∙ c.clear_tables.ensures) in
    all ∙ ap (λ (state : StoreState). opening state.base_shape) c.self.view_is
