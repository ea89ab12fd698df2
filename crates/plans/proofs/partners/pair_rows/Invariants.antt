-- Those of the rows so far that have a partner.
use Rattle.std.proofs.Common.{◌≤◌, ◌≡◌, Some, length, take}
use Rattle.std.specs.List.{filter_map, All}
use Rattle.queries.specs.Answers.{joined_with}
use Rattle.plans.specs.Inner.BlockRows.{rows_of_block}
use Rattle.plans.specs.Inner.Partnered.{paired, IsOfTable}
use Rattle.plans.specs.Inner.Picked.{ArePlaces}
use Rattle.plans.proofs.partners.pair_rows.Given as goal

abbrev pub invariant-loop-i : goal.invariant-loop-i
invariant-loop-i g l = record {
  sizes : length l.places.items ≡ length l.positions.items;
  few : length l.positions.items ≤ l.i;
  within : ArePlaces l.i l.positions.items;
  there : All (λ place. IsOfTable (g.S.Store.tables l.store) l.join.table (g.S.Store.values_at l.store l.join.table place)) l.places.items;
  joined : paired (g.S.Store.values_at l.store l.join.table) (rows_of_block (g.S.Store.tables l.store) l.block) l.positions.items
      l.places.items
      ≡ filter_map (λ row. joined_with (g.S.Store.tables l.store) (Some l.join) row.1)
      (take l.i (rows_of_block (g.S.Store.tables l.store) l.block));
}
