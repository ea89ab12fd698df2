-- Worker by worker.
use Rattle.std.proofs.Common.{sym, ◌∙◌, arith, drop}
use Rattle.dispatcher.specs.Gaps.{gaps_from}
use Rattle.dispatcher.proofs.Gapping.{from-end, take-none}
use Rattle.dispatcher.proofs.gaps.push_gaps.Goals as goal

pub returns-clause-gaps : goal.returns-clause-gaps
returns-clause-gaps c =
    let all = c.args.intake.now in
    let bases = c.args.bases.now in
    let counts = c.args.counts.now in
    let worker = c.loop-worker.worker in
    sym (take-none c.args.most c.loop-worker.gaps.items (gaps_from c.args.stride worker (drop worker all) bases (drop worker counts))
    c.loop-worker.invariant.few (from-end c.args.stride worker all bases counts (omega (arith, c.loop-worker-test.false))))
    ∙ c.loop-worker.invariant.rest
