-- The columns before the index have lost the row, and the others stay.
use Rattle.std.proofs.Common.{◌≡◌, length}
use Rattle.apply.specs.Inner.Edits.{Each, SameFrom, IsTaken}
use Rattle.apply.proofs.edits.remove_row.Given as goal

abbrev pub invariant-loop-k : goal.invariant-loop-k
invariant-loop-k l = record {
  len : length l.columns ≡ length l.fn.columns;
  taken : Each (λ k. IsTaken l.rows l.at) l.k l.fn.columns l.columns;
  others : SameFrom l.k l.fn.columns l.columns;
}
