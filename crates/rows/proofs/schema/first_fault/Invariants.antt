-- The tables before `i` have no fault: what those from `i` on have behind them is the whole's.
use Rattle.std.proofs.Common.{◌≡◌, [], map, take, drop}
use Rattle.rows.specs.SchemaFaults.{tables_fault}
use Rattle.rows.specs.Shape.{given}
use Rattle.rows.proofs.schema.first_fault.Given as goal

abbrev pub invariant-loop-i : goal.invariant-loop-i
invariant-loop-i l =
    tables_fault (map given (take l.i l.tables)) (map given (drop l.i l.tables)) ≡ tables_fault [] (map given l.tables)
