-- Each column keeps its values, and those before the index have room.
use Rattle.std.proofs.Common.{◌≡◌, ℕ, ◌<◌, length, slice_index_or}
use Rattle.apply.specs.Columns.{HasRoom, Keeps}
use Rattle.apply.specs.Inner.Edits.{Each}
use Rattle.apply.proofs.edits.reserve_row.Given as goal

abbrev pub invariant-loop-k : goal.invariant-loop-k
invariant-loop-k l = record {
  len : length l.columns ≡ length l.fn.columns;
  keeps : Each (λ k. Keeps) (length l.fn.columns) l.fn.columns l.columns;
  room : (k : ℕ) (d : _) → k < l.k → HasRoom (slice_index_or l.columns k d);
}
