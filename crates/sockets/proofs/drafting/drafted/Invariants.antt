-- On each list that begins with the seat's, the steps so far made the transaction.
use Rattle.std.proofs.Common.{◌≡◌, ◌≤◌, List, [], length, drop}
use mathlib.Core.List.{IsPrefix}
use Rattle.rows.specs.declared.commit.Commit.{Commit}
use Rattle.rows.specs.Shape.{shape_of}
use Rattle.journal.specs.Recovery.{IsJournaled}
use Rattle.sockets.specs.Changes.{steps_answer}
use Rattle.sockets.proofs.drafting.drafted.Given as goal

abbrev pub invariant-loop-number : goal.invariant-loop-number
invariant-loop-number g l = record {
  legal : IsJournaled g.L.Line.workers (shape_of g.L.Line.schema) l.seat.list;
  later : IsPrefix l.fn.seat.list l.seat.list;
  same : l.seat ≡ record l.fn.seat { list = l.seat.list };
  begun : length l.fn.seat.list ≤ l.transaction.snapshot;
  within : l.transaction.snapshot ≤ length l.seat.list;
  made : (all : List Commit) → IsPrefix l.seat.list all
      → steps_answer (shape_of g.L.Line.schema) all 0 (record { snapshot = l.transaction.snapshot; entries = [] }) l.steps
      ≡ steps_answer (shape_of g.L.Line.schema) all l.number l.transaction (drop l.number l.steps);
}
