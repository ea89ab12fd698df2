-- All jobs were taken up to the first fault, and what was pending is settled.
use Rattle.std.proofs.Common.{◌≡◌, refl, ap, ◌∙◌, []}
use Rattle.rows.specs.Shape.{shape_of}
use Rattle.desk.specs.State.{SeatState}
use Rattle.sockets.specs.Worker.{WorkerState}
use Rattle.sockets.proofs.Taking.{taken-none}
use Rattle.sockets.proofs.Working.{worked-at-end}
use Rattle.sockets.proofs.worker.Worker.works.Goals as goal

pub returns : goal.returns
returns g c =
    let workers = g.L.Line.workers in
    let shape = shape_of g.L.Line.schema in
    let old = c.args.self.now in
    let last = c.settles-settled.new.self in
    let new : WorkerState = record { seat = last.seat; answers = last.answers; fault = c.fault_of-self-inside.result } in
    let ready : c.clear.new.self ≡ record { seat = old.seat; answers = []; pending = [] } =
    c.clear.ensures.same
    ∙ ap (λ (seat : SeatState). record { seat = seat; answers = []; pending = [] }) (ap (λ (w : WorkerState). w.seat) c.self.view_is) in
    worked-at-end workers shape c.args.number c.args.jobs.now old new c.clear.new.self c.takes_all-ended.new.self last
    c.takes_all-ended.result c.settles-settled.result refl refl c.settles-settled.ensures.none c.fault_of-self-inside.ensures
    (taken-none workers shape old.seat c.clear.new.self c.clear.ensures.legal ready)
    c.takes_all-ended.ensures.taken c.takes_all-ended.ensures.fault c.settles-settled.ensures.settled c.settles-settled.ensures.fault
