-- The columns before the index have the rows before the place, and the others stay.
use Rattle.std.proofs.Common.{◌≡◌, length}
use Rattle.apply.specs.Inner.Edits.{Each, SameFrom, IsFront}
use Rattle.apply.proofs.edits.truncate_rows.Given as goal

abbrev pub invariant-loop-k : goal.invariant-loop-k
invariant-loop-k l = record {
  len : length l.columns ≡ length l.fn.columns;
  front : Each (λ k. IsFront l.rows l.at) l.k l.fn.columns l.columns;
  others : SameFrom l.k l.fn.columns l.columns;
}
