-- Jobs are taken, or none is.
use Rattle.std.proofs.Common.{◌≡◌, subst, List, [], take, false}
use Rattle.rows.specs.Shape.{shape_of}
use Rattle.sockets.specs.declared.job_answer.JobAnswer.{JobAnswer}
use Rattle.gateway.specs.Jobs.{DeskState, TakesJobs, Tells}
use Rattle.gateway.proofs.Seats.{takes-none}
use Rattle.gateway.proofs.job_desk.JobDesk.take_jobs.Goals as goal

pub returns-in-Err : goal.returns-in-Err
returns-in-Err g c = λ kept.
    (kept, ([], takes-none g.L.Line.workers (shape_of g.L.Line.schema) c.args.self.now.job_seat, c.tell_unread.ensures))

pub returns-then-not-are_of_workers : goal.returns-then-not-are_of_workers
returns-then-not-are_of_workers g c = λ kept.
    (kept, ([], takes-none g.L.Line.workers (shape_of g.L.Line.schema) c.args.self.now.job_seat, c.tell_fault.ensures []))

pub returns-in-Failed : goal.returns-in-Failed
returns-in-Failed g c = λ kept.
    let workers = g.L.Line.workers in
    let shape = shape_of g.L.Line.schema in
    let told = c.take_each-taken.new.told.items in
    let are = c.in-Failed.ensures in
    let new = c.take_each-taken.new.job_seat in
    let response = c.tell_fault-in-Failed.new.response in
    let jobs = take are.0 c.deref-2.result.now in
    subst (λ (d : DeskState). (d.has_lost ≡ false)
    × ((x : List JobAnswer) × TakesJobs workers shape d.job_seat new x × Tells x response)) c.self.view_is (
      kept,
      (
        told,
        record { jobs = jobs; goes = are.1.0; kept = are.1.1; each = are.1.2 },
        c.tell_fault-in-Failed.ensures told,
      ),
    )
