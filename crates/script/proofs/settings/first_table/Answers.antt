-- The one table is all that the schema has.
use Rattle.std.proofs.Common.{[], ◌∷◌, ap}
use Rattle.script.proofs.TableReading.{table-made}
use Rattle.script.proofs.settings.first_table.Goals as goal

pub returns-in-Ok : goal.returns-in-Ok
returns-in-Ok c =
    table-made [] _ (c.in-Ok.name.now, c.in-Ok.kinds.items) _ c.schema_of.result c.in-Ok.ensures
    (ap (λ kinds. (c.in-Ok.name.now, kinds) ∷ []) c.as_slice.ensures.value) c.schema_of.ensures
