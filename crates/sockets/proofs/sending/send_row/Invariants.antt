-- Those so far were to be sent, and the others are left.
use Rattle.std.proofs.Common.{map}
use Rattle.sockets.specs.Inner.Sending.{SendsAll, to_replicas}
use Rattle.sockets.proofs.sending.send_row.Given as goal

abbrev pub invariant-loop-packet : goal.invariant-loop-packet
invariant-loop-packet g l = record {
  sends : SendsAll {P = g.row.P.Denot} g.P.Port.is_honest g.P.Port.came g.P.Port.sent g.P.Port.fault_count l.fn.port l.port
      l.fn.traffic l.traffic (map to_replicas l.yielded);
}
