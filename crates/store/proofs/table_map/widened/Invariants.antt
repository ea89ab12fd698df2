-- The first rows, each with one more value.
use Rattle.std.proofs.Common.{◌≡◌, take}
use Rattle.rows.specs.Tables.{with_column}
use Rattle.store.proofs.table_map.widened.Given as goal

abbrev pub invariant-loop-i : goal.invariant-loop-i
invariant-loop-i l = l.made.entries ≡ with_column l.default (take l.i l.rows.entries)
