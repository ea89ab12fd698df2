-- The positions are those of the rows that meet the conditions before the index.
use Rattle.std.proofs.Common.{◌≡◌, ◌≤◌, List, length, map, take}
use Rattle.std.specs.List.{filter, list_all}
use Rattle.queries.specs.Answers.{JoinedRow, meets}
use Rattle.plans.specs.Inner.Picked.{ArePlaces}
use Rattle.plans.specs.Inner.Cells.{AreColumnsOf}
use Rattle.plans.specs.Inner.Selections.{joined_at, columns_of}
use Rattle.plans.proofs.selection.select_rows.Given as goal

abbrev pub invariant-loop-index : goal.invariant-loop-index
invariant-loop-index l = record {
  places : ArePlaces l.count l.positions.items;
  few : length l.positions.items ≤ l.count;
  rows : (rows : List JoinedRow) → length rows ≡ l.count → AreColumnsOf l.columns l.places (columns_of l.conditions) rows
      → map (joined_at rows) l.positions.items ≡ filter (λ row. list_all (meets row) (take l.index l.conditions)) rows;
}
