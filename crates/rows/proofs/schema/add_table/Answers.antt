-- The name is new, so the map's `insert` puts it last.
use Rattle.rows.proofs.Schemas.{shown-insert_entry}
use Rattle.rows.proofs.schema.add_table.Goals as goal

pub returns : goal.returns
returns c =
    let tables = c.args.tables.now in
    let name = c.in_ok-name.ensures.ok in
    let kinds = c.in_ok-kinds.ensures in
    let put = c.in_ok-insert.ensures.entries in
    let added = shown-insert_entry tables c.in_ok-name.name c.in_ok-kinds.kinds (rw (name, kinds) c.requires) in
    rw (put, added, name, kinds)
