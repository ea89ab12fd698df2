-- The next table of the schema stands behind those before it.
use Rattle.std.proofs.Common.{map, ap, sym, ◌∙◌}
use Rattle.std.proofs.lemmas.List.{map-append}
use Rattle.rows.specs.Shape.{shape_of}
use Rattle.store.proofs.TableKinds.{opening-more}
use Rattle.store.proofs.changing.empty_tables.Goals as goal

pub loop-table-preserved : goal.loop-table-preserved
loop-table-preserved g c =
    ap (map g.T.TableRows.table) c.in_ok-push.ensures.items
    ∙ rw (map-append, c.loop-table.invariant, c.in_ok-empty.ensures)
    (sym (opening-more (shape_of c.args.schema.now) c.loop-table.table c.in-Some.kinds.now c.in-Some.ensures.value))
