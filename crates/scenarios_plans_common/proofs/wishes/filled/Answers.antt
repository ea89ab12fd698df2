-- Tables without rows are of the schema's kinds.
use Rattle.std.proofs.Common.{[], ap, refl}
use Rattle.rows.specs.Shape.{shape_of}
use Rattle.scenarios_plans_common.proofs.wishes.filled.Goals as goal

pub loop-line-init : goal.loop-line-init
loop-line-init c = record {
  whole = ap (λ store. store.whole) c.in_ok-store.ensures;
  kinds = rw c.in_ok-store.ensures (c.changes_tell_kinds.ensures.versions (shape_of c.args.schema.now) [] 0 refl);
}
