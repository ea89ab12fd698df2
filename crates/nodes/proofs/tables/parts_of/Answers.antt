-- One table more, as long as there is one.
use Rattle.std.proofs.Common.{sym, ◌∙◌}
use Rattle.std.specs.List.{zip}
use Rattle.std.proofs.lemmas.Option.{slice_get-map}
use Rattle.rows.specs.Shape.{given}
use Rattle.rows.specs.Tables.{shape_in}
use Rattle.dispatcher.specs.TableText.{names_of}
use Rattle.nodes.proofs.Naming.{part-more, kinds-all}
use Rattle.nodes.proofs.tables.parts_of.Goals as goal

pub returns-in_default-kinds : goal.returns-in_default-kinds
returns-in_default-kinds g c =
    let names = names_of c.args.schema.now in
    let shape = shape_in c.args.replica.now.tables in
    kinds-all given names shape (zip names shape) c.loop-table.parts.items c.loop-table.table (sym c.in_default-kinds.ensures)
    c.loop-table.invariant

pub loop-table-preserved : goal.loop-table-preserved
loop-table-preserved g c =
    let schema = c.args.schema.now in
    let names = names_of schema in
    let shape = shape_in c.args.replica.now.tables in
    part-more given names shape (zip names shape) c.loop-table.parts.items c.push.new.self.items
    (c.in-Some.name, c.in-Some-kinds.kinds) c.loop-table.table c.in_ok-push.ensures.items
    (slice_get-map (λ table. table.0) schema c.loop-table.table ∙ sym c.in-Some.ensures) (sym c.in-Some-kinds.ensures)
    c.loop-table.invariant
