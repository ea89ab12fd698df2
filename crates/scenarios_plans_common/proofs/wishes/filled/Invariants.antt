-- The store is whole, and its tables are of the schema's kinds.
use Rattle.std.proofs.Common.{◌≡◌, true}
use Rattle.rows.specs.Shape.{shape_of}
use Rattle.rows.specs.Tables.{shape_in}
use Rattle.scenarios_plans_common.proofs.wishes.filled.Given as goal

abbrev pub invariant-loop-line : goal.invariant-loop-line
invariant-loop-line l = record {
  whole : l.store.whole ≡ true;
  kinds : shape_in l.store.tables ≡ shape_of l.schema;
}
