-- No worker with a count lacks a frame.
use Rattle.std.proofs.Common.{drop, sym, ◌∙◌, arith}
use Rattle.intake.proofs.Workers.{lacking-uncounted}
use Rattle.intake.proofs.intake.lacking_worker.Goals as goal

pub returns : goal.returns
returns c =
    let worker = c.loop-worker.worker in
    sym (lacking-uncounted (drop worker c.args.workers.now) c.args.bases.now c.args.counts.now worker worker
    (omega (arith, c.loop-worker-test.false)))
    ∙ c.loop-worker.invariant
