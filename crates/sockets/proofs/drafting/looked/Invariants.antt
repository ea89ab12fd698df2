-- Nothing but the seat's list has changed, and it has only grown.
use Rattle.std.proofs.Common.{◌≡◌}
use mathlib.Core.List.{IsPrefix}
use Rattle.sockets.proofs.drafting.looked.Given as goal

abbrev pub invariant-loop : goal.invariant-loop
invariant-loop g l = record {
  later : IsPrefix l.fn.seat.list l.seat.list;
  same : l.seat ≡ record l.fn.seat { list = l.seat.list };
}
