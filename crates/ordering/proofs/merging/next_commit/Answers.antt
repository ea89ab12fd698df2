-- The next commit is that of the worker whose frames begin with its number.
use Rattle.std.proofs.Common.{◌+◌, slice_set}
use Rattle.std.specs.Prelude.{slice_index}
use Rattle.intake.specs.Kept.{frames_between}
use Rattle.ordering.specs.Merging.{frames_in}
use Rattle.ordering.proofs.Holding.{first-held, stuck-here, stuck-none}
use Rattle.ordering.proofs.Taking.{none-begins, taken-away}
use Rattle.ordering.proofs.merging.next_commit.Goals as goal

pub returns-in-None-clause-stuck : goal.returns-in-None-clause-stuck
returns-in-None-clause-stuck c = λ inconsistent.
    stuck-none c.args.before (frames_in c.args.intake.now c.args.at.now c.args.high.now)
    (none-begins (c.args.before + 1) c.args.intake.now c.args.at.now c.args.high.now c.requires.each c.in-None.ensures)

pub returns-in-Err-clause-stuck : goal.returns-in-Err-clause-stuck
returns-in-Err-clause-stuck c = λ inconsistent.
    stuck-here c.args.before c.in-Some.worker (frames_in c.args.intake.now c.args.at.now c.args.high.now) c.in-Some.ensures.1
    (c.in-Err.ensures.none inconsistent)

pub returns-in-Ok-clause-step : goal.returns-in-Ok-clause-step
returns-in-Ok-clause-step c =
    let all = c.args.intake.now in
    let at = c.args.at.now in
    let worker = c.in-Some.worker in
    let next = c.in-Ok.commit.next in
    first-held c.args.before (frames_in all at c.args.high.now) (record { worker = worker; entries = c.in-Ok.commit.entries })
    (frames_between all worker (slice_index at worker) next) (frames_in all (slice_set at worker next) c.args.high.now)
    c.in-Ok.ensures.held
    (taken-away all at c.args.high.now worker next c.in-Some.ensures.0 c.in-Ok.ensures.next.0 c.in-Ok.ensures.next.1)
