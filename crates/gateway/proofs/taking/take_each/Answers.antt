-- The jobs are taken one after the other.
use Rattle.std.proofs.Common.{ap, sym, ◌∙◌, subst, arith, ◌+◌, ◌∷◌, [], ◌++◌, take, List}
use Rattle.std.proofs.lemmas.List.{take_all}
use Rattle.rows.specs.Shape.{shape_of}
use Rattle.sockets.specs.declared.job_answer.JobAnswer.{JobAnswer}
use Rattle.gateway.specs.Inner.Taking.{AreTaken}
use Rattle.gateway.proofs.Seats.{taken-next, taken-still}
use Rattle.gateway.proofs.taking.take_each.Goals as goal

pub returns-else-taken-before : goal.returns-else-taken-before
returns-else-taken-before g c =
    let workers = g.L.Line.workers in
    let shape = shape_of g.L.Line.schema in
    let jobs = take c.loop-index.index c.args.jobs.now in (
      c.loop-index.index,
      subst (AreTaken workers shape jobs c.args.job_seat.now c.takes.new.self) (sym c.reserve.ensures.items)
          (taken-still workers shape jobs c.args.job_seat.now c.loop-index.job_seat c.takes.new.self c.loop-index.told.items
          c.loop-index.invariant c.in-Err.ensures.kept c.in-Err.ensures.whole
          (omega (arith, c.if-taken-before.false, c.taken.ensures, c.taken-before.ensures))),
    )

pub loop-index-preserved : goal.loop-index-preserved
loop-index-preserved g c =
    let workers = g.L.Line.workers in
    let shape = shape_of g.L.Line.schema in
    let jobs = c.args.jobs.now in
    let i = c.loop-index.index in
    subst (AreTaken workers shape (take (i + 1) jobs) c.args.job_seat.now c.takes.new.self)
    (sym (c.push_reserved.ensures.items ∙ ap (λ (told : List JobAnswer). told ++ c.in-Ok.answer ∷ []) c.reserve.ensures.items))
    (taken-next workers shape jobs i c.index-jobs-index.result c.args.job_seat.now c.loop-index.job_seat c.takes.new.self
    c.loop-index.told.items c.in-Ok.answer c.loop-index-test.true c.index-jobs-index.is c.loop-index.invariant c.in-Ok.ensures.taken
    c.in-Ok.ensures.kept)

pub returns : goal.returns
returns g c =
    subst (λ js. AreTaken g.L.Line.workers (shape_of g.L.Line.schema) js c.args.job_seat.now c.loop-index.job_seat c.loop-index.told.items)
    (take_all c.loop-index.index c.args.jobs.now (omega (arith, c.loop-index-test.false))) c.loop-index.invariant
