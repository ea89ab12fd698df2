-- The tickets so far are answered, and their commits stand in the list.
use Rattle.std.proofs.Common.{◌≡◌, ℕ, ◌+◌, ◌<◌, ◌++◌, get_or, map, take}
use Rattle.std.specs.Vec.{vec_capacity, vec_len}
use mathlib.Core.List.{IsPrefix}
use Rattle.rows.specs.Shape.{shape_of}
use Rattle.journal.specs.Recovery.{IsJournaled}
use Rattle.primary.specs.declared.ticket.Ticket.{Ticket}
use Rattle.desk.specs.Answers.{Stands}
use Rattle.sockets.specs.JobSeats.{ticket_answer}
use Rattle.sockets.proofs.job_seat.settle_each.Given as goal

abbrev pub invariant-loop-ticket : goal.invariant-loop-ticket
invariant-loop-ticket g l = record {
  legal : IsJournaled g.L.Line.workers (shape_of g.L.Line.schema) l.seat.list;
  later : IsPrefix l.fn.seat.list l.seat.list;
  same : l.seat ≡ record l.fn.seat { list = l.seat.list };
  stand : (k : ℕ) (any : Ticket) → k < l.ticket-index → Stands l.seat.list (get_or l.tickets k any);
  kept : l.answers.items ≡ l.fn.answers.items ++ map ticket_answer (take l.ticket-index l.tickets);
  count : vec_len l.answers ≡ vec_len l.fn.answers + l.ticket-index;
  capacity : vec_capacity l.answers ≡ vec_capacity l.fn.answers;
}
