-- All workers with a count are done.
use Rattle.std.proofs.Common.{sym, ◌∙◌, arith}
use Rattle.intake.proofs.Workers.{dropped-uncounted}
use Rattle.intake.proofs.intake.drop_each.Goals as goal

pub returns : goal.returns
returns c =
    sym (dropped-uncounted c.loop-worker.workers c.args.counts.now c.loop-worker.worker (omega (arith, c.loop-worker-test.false)))
    ∙ c.loop-worker.invariant
