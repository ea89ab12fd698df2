-- The kinds are still those that a table may have, and the identifiers are the same.
use Rattle.std.proofs.Common.{◌≡◌, List, ◌++◌, ◌∷◌, [], refl, sym, ap, subst, ◌∙◌}
use Rattle.std.specs.Map.{keys_of}
use Rattle.rows.specs.declared.kind.Kind.{Kind}
use Rattle.rows.specs.Shape.{AreColumns}
use Rattle.rows.specs.Values.{kind_of}
use Rattle.rows.specs.declared.value.Value.{Value}
use Rattle.rows.specs.Tables.{Rows, Table, with_column}
use Rattle.store.proofs.table_map.TableMapTableRows.add_column.Goals as goal

keys-with_column : (default : Value) (rows : Rows) → keys_of (with_column default rows) ≡ keys_of rows
keys-with_column default [] = refl
keys-with_column default (first ∷ rows) = ap (λ keys. first.0 ∷ keys) (keys-with_column default rows)

pub invariant_of-self : goal.invariant_of-self
invariant_of-self c =
    let kinds = ap (λ (table : Table). table.kinds) c.self.view_is in
    let made : c.in_ok-kinds.kinds ≡ c.self.inside.kinds ++ kind_of c.args.default ∷ [] =
    c.in_ok-kinds.ensures ∙ ap (λ kind. c.self.inside.kinds ++ kind ∷ []) c.kind.ensures.kind in
    let rows = ap keys_of c.in_ok-rows.ensures ∙ keys-with_column c.args.default c.self.inside.rows.entries in
    record {
      columns = subst AreColumns (sym made)
          (subst (λ (kinds : List Kind). AreColumns (kinds ++ kind_of c.args.default ∷ [])) (sym kinds) c.requires);
      ids = c.self.invariant.ids ∙ sym rows;
      rise = c.self.invariant.rise;
    }
