-- The tables so far are the schema's first.
use Rattle.std.proofs.Common.{◌≡◌, map, take}
use Rattle.rows.specs.Shape.{given}
use Rattle.script.proofs.settings.tables_of.Given as goal

abbrev pub invariant-loop-number : goal.invariant-loop-number
invariant-loop-number l = map given l.tables.items ≡ take l.number l.schema
