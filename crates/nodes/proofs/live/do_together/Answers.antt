-- The jobs are all of this worker, so its answers are those of the first of them.
use Rattle.std.proofs.Common.{◌≡◌, refl, ap, subst, arith, length, take}
use Rattle.std.specs.List.{AllZip}
use Rattle.rows.specs.Shape.{shape_of}
use Rattle.sockets.specs.Answers.{IsJobAnswer}
use Rattle.nodes.proofs.Choosing.{all-of, answers-zero}
use Rattle.nodes.proofs.live.do_together.Goals as goal

pub tell_answers-requires-clause-few : goal.tell_answers-requires-clause-few
tell_answers-requires-clause-few g c =
    let mine = ap length (all-of c.args.number c.args.jobs.now (c.if-not-are_all_of.ensures.0 refl)) in
    omega (arith, mine, c.works.ensures.few)

pub tell_answers-requires-clause-answered : goal.tell_answers-requires-clause-answered
tell_answers-requires-clause-answered g c =
    let new = c.works.new.self in
    answers-zero (shape_of g.L.Line.schema) (length c.args.worker.now.seat.list) new.seat.list (take (length new.answers) c.args.jobs.now)
    new.answers
    (subst (λ jobs. AllZip (IsJobAnswer (shape_of g.L.Line.schema) (length c.args.worker.now.seat.list) new.seat.list)
    (take (length new.answers) jobs) new.answers) (all-of c.args.number c.args.jobs.now (c.if-not-are_all_of.ensures.0 refl))
    c.works.ensures.answered)
