-- The columns before the index are copied.
use Rattle.std.proofs.Common.{◌≡◌, ◌≤◌, length, vec_len, vec_capacity}
use Rattle.apply.specs.Columns.{IsTail}
use Rattle.apply.specs.Inner.Edits.{Each}
use Rattle.apply.proofs.edits.rows_from.Given as goal

abbrev pub invariant-loop-k : goal.invariant-loop-k
invariant-loop-k l = record {
  len : length l.made.items ≡ l.k;
  tail : Each (λ k. IsTail l.rows l.at) l.k l.columns l.made.items;
  count : vec_len l.made ≡ l.k;
  room : length l.columns ≤ vec_capacity l.made;
}
