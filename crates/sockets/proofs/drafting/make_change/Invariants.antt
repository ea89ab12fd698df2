-- The transaction is as it was, and of the seat only the list has changed, and it has only grown.
use Rattle.std.proofs.Common.{◌≡◌}
use mathlib.Core.List.{IsPrefix}
use Rattle.sockets.proofs.drafting.make_change.Given as goal

abbrev pub invariant-loop : goal.invariant-loop
invariant-loop g l = record {
  later : IsPrefix l.fn.seat.list l.seat.list;
  same : l.seat ≡ record l.fn.seat { list = l.seat.list };
  as_was : l.transaction ≡ l.fn.transaction;
}
