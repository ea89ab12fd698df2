-- The values of the rows so far.
use Rattle.std.proofs.Common.{◌≡◌, map, take}
use Rattle.rows.specs.Tables.{rows_of}
use Rattle.plans.proofs.Blocks.{own_value}
use Rattle.plans.proofs.block.found_values.Given as goal

abbrev pub invariant-loop-id : goal.invariant-loop-id
invariant-loop-id g l =
    l.values.items ≡ map (own_value (rows_of (g.S.Store.tables l.store) l.block.table) l.column) (take l.id-index l.block.ids.now)
