-- One ticket more is settled, and answered.
use Rattle.std.proofs.Common.{ap, ◌∙◌, arith}
use Rattle.desk.specs.State.{SeatState}
use Rattle.sockets.proofs.Beginnings.{prefix_trans}
use Rattle.sockets.proofs.Taking.{kept-more, stand-more}
use Rattle.sockets.proofs.job_seat.settle_each.Goals as goal

pub loop-ticket-preserved : goal.loop-ticket-preserved
loop-ticket-preserved g c =
    let inv = c.loop-ticket.invariant in
    let tickets = c.args.tickets.now in
    let i = c.loop-ticket.ticket-index in
    let ticket = c.ticket-item.result in
    let list = c.loop-ticket.seat.list in
    let new = c.settled.new.seat.list in
    let told = c.in-Ok.ensures.answer in
    record {
      legal = c.settled.ensures.legal;
      later = prefix_trans c.args.seat.now.list list new inv.later c.settled.ensures.later;
      same = c.settled.ensures.same ∙ ap (λ (s : SeatState). record s { list = new }) inv.same;
      stand = stand-more tickets i ticket list new c.settled.ensures.later c.loop-ticket-test.true c.ticket-item.is inv.stand told.1;
      kept =
          c.push_reserved.ensures.items
          ∙ kept-more c.args.answers.now.items c.loop-ticket.answers.items tickets i ticket c.in-Ok.answer c.loop-ticket-test.true
          c.ticket-item.is inv.kept told.0;
      count = omega (arith, c.push_reserved.ensures.len, inv.count);
      capacity = c.push_reserved.ensures.capacity ∙ inv.capacity;
    }
