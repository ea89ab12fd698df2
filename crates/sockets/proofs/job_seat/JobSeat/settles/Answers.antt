-- The tickets were settled up to the first that was not.
use Rattle.std.proofs.Common.{◌≡◌, ℕ, ap, ◌∙◌, subst, List, [], length, Err, IfErr, MatchResult}
use mathlib.Core.List.{IsPrefix}
use Rattle.rows.specs.Shape.{shape_of}
use Rattle.primary.specs.declared.ticket.Ticket.{Ticket}
use Rattle.desk.specs.State.{SeatState}
use Rattle.sockets.specs.Inner.JobSeats.{AreSettled}
use Rattle.sockets.specs.JobSeats.{JobSeatState, GoesOn, Ends, outcomes}
use Rattle.sockets.proofs.Beginnings.{prefix_trans}
use Rattle.sockets.proofs.Taking.{after-settling, after-settling-whole, outcomes-settled, settled-none, whole-settled}
use Rattle.sockets.proofs.job_seat.JobSeat.settles.Goals as goal

pub returns-in-Err-clause-settled : goal.returns-in-Err-clause-settled
returns-in-Err-clause-settled g c =
    let workers = g.L.Line.workers in
    let shape = shape_of g.L.Line.schema in
    let inside = c.self.inside in
    let old : JobSeatState = record { seat = inside.seat; answers = inside.answers.items; pending = inside.pending.items } in
    let new : JobSeatState = record { seat = c.flushed.new.seat; answers = inside.answers.items; pending = c.clear.new.self.items } in
    subst (λ (s : JobSeatState). (lost : ℕ) → Ends workers shape lost [] s new) c.self.view_is
    (after-settling {A = Unit {0}} workers shape old new (Err c.in-Err.fault) c.flushed.ensures.legal c.flushed.ensures.later
    c.flushed.ensures.same c.clear.ensures.items (0, settled-none inside.pending.items c.flushed.new.seat.list inside.answers.items))

pub returns-clause-settled : goal.returns-clause-settled
returns-clause-settled g c =
    let workers = g.L.Line.workers in
    let shape = shape_of g.L.Line.schema in
    let inside = c.self.inside in
    let result = c.settle_each-settled.result in
    let seat = c.settle_each-settled.new.seat in
    let answers = c.settle_each-settled.new.answers.items in
    let old : JobSeatState = record { seat = inside.seat; answers = inside.answers.items; pending = inside.pending.items } in
    let new : JobSeatState = record { seat = seat; answers = answers; pending = c.clear-2.new.self.items } in
    subst (λ (s : JobSeatState). (lost : ℕ)
    → MatchResult result (λ _. GoesOn workers shape lost [] s new) (λ fault. Ends workers shape lost [] s new)) c.self.view_is
    (after-settling workers shape old new result c.settle_each-settled.ensures.legal
    (prefix_trans inside.seat.list c.flushed.new.seat.list seat.list c.flushed.ensures.later c.settle_each-settled.ensures.later)
    (c.settle_each-settled.ensures.same ∙ ap (λ (s : SeatState). record s { list = seat.list }) c.flushed.ensures.same)
    c.clear-2.ensures.items
    (subst (λ (tickets : List Ticket).
    MatchResult result (λ _. AreSettled (length tickets) tickets seat.list inside.answers.items answers)
    (λ fault. (count : ℕ) × AreSettled count tickets seat.list inside.answers.items answers)) c.as_slice.ensures.value
    c.settle_each-settled.ensures.settled))

pub returns-in-Err-clause-kept : goal.returns-in-Err-clause-kept
returns-in-Err-clause-kept g c =
    let inside = c.self.inside in
    let old : JobSeatState = record { seat = inside.seat; answers = inside.answers.items; pending = inside.pending.items } in
    let new : JobSeatState = record { seat = c.flushed.new.seat; answers = inside.answers.items; pending = c.clear.new.self.items } in
    subst (λ (s : JobSeatState). IsPrefix (outcomes new) (outcomes s)) c.self.view_is
    (outcomes-settled {A = Unit {0}} c.flushed.new.seat.list old new (Err c.in-Err.fault) c.clear.ensures.items
    (0, settled-none inside.pending.items c.flushed.new.seat.list inside.answers.items))

pub returns-clause-kept : goal.returns-clause-kept
returns-clause-kept g c =
    let inside = c.self.inside in
    let result = c.settle_each-settled.result in
    let seat = c.settle_each-settled.new.seat in
    let answers = c.settle_each-settled.new.answers.items in
    let old : JobSeatState = record { seat = inside.seat; answers = inside.answers.items; pending = inside.pending.items } in
    let new : JobSeatState = record { seat = seat; answers = answers; pending = c.clear-2.new.self.items } in
    subst (λ (s : JobSeatState). MatchResult result (λ _. outcomes new ≡ outcomes s) (λ _. IsPrefix (outcomes new) (outcomes s)))
    c.self.view_is
    (outcomes-settled seat.list old new result c.clear-2.ensures.items
    (subst (λ (tickets : List Ticket).
    MatchResult result (λ _. AreSettled (length tickets) tickets seat.list inside.answers.items answers)
    (λ fault. (count : ℕ) × AreSettled count tickets seat.list inside.answers.items answers)) c.as_slice.ensures.value
    c.settle_each-settled.ensures.settled))

pub returns-in-Err-clause-whole : goal.returns-in-Err-clause-whole
returns-in-Err-clause-whole g c =
    let workers = g.L.Line.workers in
    let shape = shape_of g.L.Line.schema in
    let inside = c.self.inside in
    let old : JobSeatState = record { seat = inside.seat; answers = inside.answers.items; pending = inside.pending.items } in
    let new : JobSeatState = record { seat = c.flushed.new.seat; answers = inside.answers.items; pending = c.clear.new.self.items } in
    subst (λ (s : JobSeatState). length (outcomes new) ≡ length (outcomes s) → GoesOn workers shape 0 [] s new) c.self.view_is
    (whole-settled workers shape 0 old new c.flushed.ensures.legal c.flushed.ensures.later c.flushed.ensures.same c.clear.ensures.items
    (settled-none inside.pending.items c.flushed.new.seat.list inside.answers.items))

pub returns-clause-whole : goal.returns-clause-whole
returns-clause-whole g c =
    let workers = g.L.Line.workers in
    let shape = shape_of g.L.Line.schema in
    let inside = c.self.inside in
    let result = c.settle_each-settled.result in
    let seat = c.settle_each-settled.new.seat in
    let answers = c.settle_each-settled.new.answers.items in
    let old : JobSeatState = record { seat = inside.seat; answers = inside.answers.items; pending = inside.pending.items } in
    let new : JobSeatState = record { seat = seat; answers = answers; pending = c.clear-2.new.self.items } in
    subst (λ (s : JobSeatState). IfErr result (λ _. length (outcomes new) ≡ length (outcomes s) → GoesOn workers shape 0 [] s new))
    c.self.view_is
    (after-settling-whole workers shape old new result c.settle_each-settled.ensures.legal
    (prefix_trans inside.seat.list c.flushed.new.seat.list seat.list c.flushed.ensures.later c.settle_each-settled.ensures.later)
    (c.settle_each-settled.ensures.same ∙ ap (λ (s : SeatState). record s { list = seat.list }) c.flushed.ensures.same)
    c.clear-2.ensures.items
    (subst (λ (tickets : List Ticket).
    MatchResult result (λ _. AreSettled (length tickets) tickets seat.list inside.answers.items answers)
    (λ fault. (count : ℕ) × AreSettled count tickets seat.list inside.answers.items answers)) c.as_slice.ensures.value
    c.settle_each-settled.ensures.settled))
