-- The map holds the tables before the index, and those from it on have no fault behind them.
use Rattle.std.proofs.Common.{◌≡◌, map, take, drop, None}
use Rattle.rows.specs.SchemaFaults.{tables_fault}
use Rattle.rows.specs.Shape.{given}
use Rattle.rows.specs.Inner.Shown.{kept_table}
use Rattle.rows.proofs.schema.build.Given as goal

abbrev pub invariant-loop-name : goal.invariant-loop-name
invariant-loop-name l = record {
  made : map kept_table l.made.entries ≡ map given (take l.name-index l.tables);
  sound : tables_fault (map kept_table l.made.entries) (map given (drop l.name-index l.tables)) ≡ None;
}
