-- All workers with a base have gained.
use Rattle.std.proofs.Common.{sym, ◌∙◌, arith}
use Rattle.intake.proofs.Workers.{gained-past, gained-unbased}
use Rattle.intake.proofs.intake.gain_each.Goals as goal

pub returns : goal.returns
returns c =
    sym (gained-unbased c.loop-worker.workers c.args.bases.now c.loop-worker.worker (omega (arith, c.loop-worker-test.false)))
    ∙ c.loop-worker.invariant

pub returns-then-worker-workers : goal.returns-then-worker-workers
returns-then-worker-workers c =
    sym (gained-past c.loop-worker.workers c.args.bases.now c.loop-worker.worker (omega (arith, c.if-worker-workers.true)))
    ∙ c.loop-worker.invariant
