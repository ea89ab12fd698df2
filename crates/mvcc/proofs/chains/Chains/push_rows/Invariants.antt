-- The chains of the table from that row on are those so far, as many as were gone over, and those to come; the inserts of the former are
-- in the image.
use Rattle.std.proofs.Common.{◌≡◌, ◌+◌, ◌++◌, length, None}
use Rattle.std.specs.List.{AllByRecursion}
use Rattle.rows.specs.Spelling.{AreBytes}
use Rattle.mvcc.specs.Inner.Chains.{Chains}
use Rattle.mvcc.specs.Inner.Images.{found_at, chains_within, inserts_of}
use Rattle.mvcc.proofs.Images.{Falls}
use Rattle.mvcc.proofs.chains.Chains.push_rows.Given as goal

abbrev pub invariant-loop-key : goal.invariant-loop-key
invariant-loop-key l = record {
  done : Chains;
  whole : done ++ l.key-iterator ≡ chains_within l.place.table l.place.row None l.self;
  count : l.left + length done ≡ l.most;
  items : l.image.items ≡ l.initial.image.items ++ inserts_of l.place.table (found_at l.version l.blank done);
  bytes : AllByRecursion (λ row. AreBytes row.1) (found_at l.version l.blank done);
  sorted : Falls l.key-iterator;
}
