-- What was done so far.
use Rattle.std.proofs.Common.{Ok}
use Rattle.sockets.specs.Primaries.{DoesPrimary}
use Rattle.sockets.specs.Serving.{TurnsLeft, completed}
use Rattle.sockets.specs.declared.faults.ServeFault.{ServeFault}
use Rattle.sockets.proofs.serving_primary.serve_primary.Given as goal

abbrev pub invariant-loop : goal.invariant-loop
invariant-loop g l = record {
  can : (goal.iterator-loop g).can_next l.iterator';
  ends : (goal.iterator-loop g).is_finite l.iterator';
  does : DoesPrimary {P = g.row.P.Denot} g.L.Line.schema g.L.Line.workers g.P.Port.is_honest g.P.Port.came g.P.Port.sent
      g.P.Port.fault_count l.fn.node l.node 0 (λ _. completed {F = ServeFault} l.fn.turns l.turns (Ok (tt {0})));
  turns : TurnsLeft l.fn.turns l.turns;
}
