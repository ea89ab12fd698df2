-- Those so far were to be sent, and the others are left.
use Rattle.std.proofs.Common.{◌≡◌, ◌++◌}
use Rattle.sockets.specs.Inner.Sending.{SendsAll}
use Rattle.sockets.proofs.sending.send_all.Given as goal

abbrev pub invariant-loop-out : goal.invariant-loop-out
invariant-loop-out g l = record {
  sends : SendsAll {P = g.row.P.Denot} g.P.Port.is_honest g.P.Port.came g.P.Port.sent g.P.Port.fault_count l.fn.port l.port
      l.fn.traffic l.traffic l.yielded;
  whole : l.yielded ++ l.out-iterator.rest.items ≡ l.fn.outs.items;
}
