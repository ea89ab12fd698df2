-- The job's commit is pending, or it is answered, or nothing but the seat's list has changed.
use Rattle.std.proofs.Common.{◌≡◌, ◌<◌, ap, sym, ◌∙◌, subst, arith, List, [], ◌∷◌, ◌++◌, length, append-nil}
use Rattle.std.specs.Vec.{vec_len}
use Rattle.std.proofs.lemmas.Bool.{eqb-true}
use Rattle.std.proofs.lemmas.List.{nil_from_length}
use Rattle.rows.specs.Shape.{shape_of}
use Rattle.primary.specs.declared.ticket.Ticket.{Ticket}
use Rattle.sockets.specs.declared.job.Job.{Job}
use Rattle.sockets.specs.declared.job_answer.JobAnswer.{JobAnswer}
use Rattle.sockets.specs.JobSeats.{JobSeatState, HasTaken}
use Rattle.sockets.specs.Work.{shared_jobs_max}
use Rattle.sockets.proofs.Taking.{taken-answered, taken-later, taken-pending}
use Rattle.sockets.proofs.job_seat.JobSeat.tries.Goals as goal

pub returns-in-Ok-Pending-clause-tried : goal.returns-in-Ok-Pending-clause-tried
returns-in-Ok-Pending-clause-tried g c = λ first jobs t.
    let workers = g.L.Line.workers in
    let shape = shape_of g.L.Line.schema in
    let inside = c.self.inside in
    let ticket = c.in-Ok-Pending.ticket in
    let old : JobSeatState = record { seat = inside.seat; answers = inside.answers.items; pending = inside.pending.items } in
    let new : JobSeatState = record {
      seat = c.commit_job.new.seat;
      answers = c.reserve.new.self.items;
      pending = c.push_reserved.new.self.items;
    } in
    let tried = rw c.in-Ok-Pending.field-0-is at c.in-Ok-Pending.ensures.seat in
    taken-pending workers shape first jobs c.args.job.now old new ticket
    (subst (HasTaken workers shape 0 first jobs) (sym c.self.view_is) t)
    (subst (λ (s : JobSeatState). length s.pending < shared_jobs_max) (sym c.self.view_is) c.requires.room)
    c.commit_job.ensures.legal c.commit_job.ensures.later (rw c.in-Ok-Pending.field-0-is at c.in-Ok-Pending.ensures.answer)
    tried.0 tried.1 c.reserve.ensures.items
    (c.push_reserved.ensures.items ∙ ap (λ (tickets : List Ticket). tickets ++ ticket ∷ []) c.reserve-2.ensures.items)

pub returns-in-Err-clause-tried : goal.returns-in-Err-clause-tried
returns-in-Err-clause-tried g c = λ first jobs t.
    let workers = g.L.Line.workers in
    let shape = shape_of g.L.Line.schema in
    let inside = c.self.inside in
    let old : JobSeatState = record { seat = inside.seat; answers = inside.answers.items; pending = inside.pending.items } in
    let new : JobSeatState = record {
      seat = c.commit_job.new.seat;
      answers = c.reserve.new.self.items;
      pending = c.reserve-2.new.self.items;
    } in
    subst (λ (js : List Job). HasTaken workers shape 0 first js new) (sym (append-nil jobs))
    (taken-later workers shape 0 first jobs old new (subst (HasTaken workers shape 0 first jobs) (sym c.self.view_is) t)
    c.commit_job.ensures.legal c.commit_job.ensures.later c.in-Err.ensures.seat c.reserve.ensures.items c.reserve-2.ensures.items)

pub returns-then-not-is_empty-clause-tried : goal.returns-then-not-is_empty-clause-tried
returns-then-not-is_empty-clause-tried g c = λ first jobs t.
    let workers = g.L.Line.workers in
    let shape = shape_of g.L.Line.schema in
    let inside = c.self.inside in
    let old : JobSeatState = record { seat = inside.seat; answers = inside.answers.items; pending = inside.pending.items } in
    let new : JobSeatState = record {
      seat = c.commit_job.new.seat;
      answers = c.reserve.new.self.items;
      pending = c.reserve-2.new.self.items;
    } in
    subst (λ (js : List Job). HasTaken workers shape 0 first js new) (sym (append-nil jobs))
    (taken-later workers shape 0 first jobs old new (subst (HasTaken workers shape 0 first jobs) (sym c.self.view_is) t)
    c.commit_job.ensures.legal c.commit_job.ensures.later (rw c.in-Ok-Answered.field-0-is at c.in-Ok-Answered.ensures.seat)
    c.reserve.ensures.items c.reserve-2.ensures.items)

pub returns-clause-tried : goal.returns-clause-tried
returns-clause-tried g c = λ first jobs t.
    let workers = g.L.Line.workers in
    let shape = shape_of g.L.Line.schema in
    let inside = c.self.inside in
    let answer = c.in-Ok-Answered.answer in
    let old : JobSeatState = record { seat = inside.seat; answers = inside.answers.items; pending = inside.pending.items } in
    let new : JobSeatState = record {
      seat = c.commit_job.new.seat;
      answers = c.push_reserved-2.new.self.items;
      pending = c.reserve-2.new.self.items;
    } in
    let told = rw c.in-Ok-Answered.field-0-is at c.in-Ok-Answered.ensures.answer in
    let none : length c.reserve-2.new.self.items ≡ 0 =
    let long = c.reserve-2.new.self.ok.0 in
    let zero = eqb-true (vec_len c.reserve-2.new.self) 0 (sym c.is_empty.ensures ∙ c.if-not-is_empty.false) in omega (arith, long, zero) in
    let idle : inside.pending.items ≡ [] =
    sym c.reserve-2.ensures.items ∙ nil_from_length c.reserve-2.new.self.items none in
    taken-answered workers shape first jobs c.args.job.now old new answer
    (subst (HasTaken workers shape 0 first jobs) (sym c.self.view_is) t) idle c.commit_job.ensures.legal c.commit_job.ensures.later
    told.0 told.1 (rw c.in-Ok-Answered.field-0-is at c.in-Ok-Answered.ensures.seat)
    (c.push_reserved-2.ensures.items ∙ ap (λ (answers : List JobAnswer). answers ++ answer ∷ []) c.reserve.ensures.items)
    (c.reserve-2.ensures.items ∙ idle)
