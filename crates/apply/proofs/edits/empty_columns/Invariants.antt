-- The columns before the index have their kinds, and no values.
use Rattle.std.proofs.Common.{◌≡◌, ◌≤◌, length, take, vec_len, vec_capacity}
use Rattle.apply.specs.Blocks.{kinds_with}
use Rattle.apply.specs.Inner.Edits.{AllCells}
use Rattle.apply.proofs.edits.empty_columns.Given as goal

abbrev pub invariant-loop-kind : goal.invariant-loop-kind
invariant-loop-kind l = record {
  kinds : kinds_with l.columns.items ≡ take l.kind-index l.kinds;
  cells : AllCells 0 l.columns.items;
  count : vec_len l.columns ≡ l.kind-index;
  room : length l.kinds ≤ vec_capacity l.columns;
}
