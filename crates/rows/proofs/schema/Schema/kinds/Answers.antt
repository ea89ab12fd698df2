-- An entry of the map, seen as a table, has these kinds; the invariant bounds them.
use Rattle.std.proofs.Common.{Some, slice_get, sym, ap, ◌∙◌}
use Rattle.rows.specs.Shape.{shape_of}
use Rattle.rows.proofs.Schemas.{AreColumns-schema, kinds_at}
use Rattle.rows.proofs.schema.Schema.kinds.Goals as goal

pub returns-clause-value : goal.returns-clause-value
returns-clause-value c =
    ap Some c.as_slice.ensures
    ∙ kinds_at c.self.inside.tables.entries c.args.table _ _ c.in_ok-kinds.ensures.entry
    ∙ ap (λ tables. slice_get (shape_of tables) c.args.table) c.self.view_is

pub returns-clause-bounds : goal.returns-clause-bounds
returns-clause-bounds c =
    AreColumns-schema _ c.args.table c.as_slice.result.now c.self.invariant
    (sym (ap Some c.as_slice.ensures ∙ kinds_at c.self.inside.tables.entries c.args.table _ _ c.in_ok-kinds.ensures.entry))
