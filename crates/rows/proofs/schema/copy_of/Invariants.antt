-- The copy and what is left are the whole, and what is left has no fault behind the copy.
use Rattle.std.proofs.Common.{◌≡◌, ◌++◌, map, None}
use Rattle.rows.specs.SchemaFaults.{tables_fault}
use Rattle.rows.specs.Inner.Shown.{kept_table}
use Rattle.rows.proofs.schema.copy_of.Given as goal

abbrev pub invariant-loop-name : goal.invariant-loop-name
invariant-loop-name l = record {
  made : map kept_table l.made.entries ++ map kept_table l.name-iterator ≡ map kept_table l.tables.entries;
  sound : tables_fault (map kept_table l.made.entries) (map kept_table l.name-iterator) ≡ None;
}
