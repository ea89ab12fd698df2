-- The number among the map's keys is the number among its tables.
use Rattle.std.proofs.Common.{position, ap, ◌∙◌}
use Rattle.std.specs.Str.{bytes_eq}
use Rattle.rows.proofs.Schemas.{place_of_name}
use Rattle.rows.proofs.schema.Schema.table_named.Goals as goal

pub returns : goal.returns
returns c =
    c.get_index_of.ensures.index
    ∙ place_of_name c.args.name.now c.self.inside.tables.entries
    ∙ ap (position (λ table. bytes_eq c.args.name.now table.0)) c.self.view_is
