-- The table stands behind those of the schema so far.
use Rattle.std.proofs.Common.{[], ◌∷◌, ◌++◌, ap}
use Rattle.script.proofs.TableReading.{table-made}
use Rattle.script.proofs.settings.next_table.Goals as goal

pub returns-in-Ok : goal.returns-in-Ok
returns-in-Ok c =
    table-made c.args.so_far.now _ (c.in-Ok.name.now, c.in-Ok.kinds.items) _ c.longer_schema.result c.in-Ok.ensures
    (ap (λ kinds. c.args.so_far.now ++ (c.in-Ok.name.now, kinds) ∷ []) c.as_slice.ensures.value) c.longer_schema.ensures
