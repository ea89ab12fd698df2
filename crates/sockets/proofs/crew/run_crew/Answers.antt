-- What each worker did stands after their seats met, and the answers are by the list of the first.
use Rattle.std.proofs.Common.{◌≡◌, inr, ◌∙◌, length}
use Rattle.rows.specs.Shape.{shape_of}
use Rattle.sockets.proofs.Crews.{each-met, crew-answered}
use Rattle.sockets.proofs.crew.run_crew.Goals as goal

pub returns-in-Some-clause-worked : goal.returns-in-Some-clause-worked
returns-in-Some-clause-worked g c =
    inr (each-met g.L.Line.workers (shape_of g.L.Line.schema) c.args.jobs.now c.args.crew.now c.work_at_once.new.crew c.meet_all.new.crew
    c.work_at_once.auto.crew c.work_at_once.ensures c.meet_all.ensures.met)

pub returns-in-None-clause-worked : goal.returns-in-None-clause-worked
returns-in-None-clause-worked g c =
    inr (each-met g.L.Line.workers (shape_of g.L.Line.schema) c.args.jobs.now c.args.crew.now c.work_at_once.new.crew c.meet_all.new.crew
    c.work_at_once.auto.crew c.work_at_once.ensures c.meet_all.ensures.met)

pub returns-in-None-clause-answered : goal.returns-in-None-clause-answered
returns-in-None-clause-answered g c = λ first begins some.
    let workers = g.L.Line.workers in
    let shape = shape_of g.L.Line.schema in
    let jobs = c.args.jobs.now in
    let old = c.args.crew.now in
    let new = c.meet_all.new.crew in
    let same : length new ≡ length old = c.meet_all.auto.crew ∙ c.work_at_once.auto.crew in
    let worked =
    each-met workers shape jobs old c.work_at_once.new.crew new c.work_at_once.auto.crew c.work_at_once.ensures c.meet_all.ensures.met in
    crew-answered workers shape jobs old new first c.in_job_order.result.items same worked c.in-None.ensures c.meet_all.ensures.seen
    c.requires.there c.in_job_order.ensures.count c.in_job_order.ensures.each begins some
