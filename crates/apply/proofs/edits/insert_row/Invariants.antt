-- The columns before the index have the row, and the others stay; what is left of the bytes is theirs.
use Rattle.std.proofs.Common.{◌≡◌, length}
use Rattle.apply.specs.Inner.Edits.{Each, SameFrom, IsPutIn, bytes_from}
use Rattle.apply.proofs.edits.insert_row.Given as goal

abbrev pub invariant-loop-k : goal.invariant-loop-k
invariant-loop-k l = record {
  len : length l.columns ≡ length l.fn.columns;
  put : Each (IsPutIn l.rows l.at l.fn.columns l.bytes) l.k l.fn.columns l.columns;
  others : SameFrom l.k l.fn.columns l.columns;
  rest : l.rest ≡ bytes_from l.fn.columns l.k l.bytes;
}
