-- A fault within one of the worker's jobs is one within all of them.
use Rattle.std.proofs.Common.{[], ◌++◌, take}
use Rattle.rows.specs.Shape.{shape_of}
use Rattle.sockets.specs.Work.{jobs_of}
use Rattle.sockets.proofs.Taking.{ends-first, goes-ends, mine-begin}
use Rattle.sockets.proofs.job_seat.JobSeat.takes_all.Goals as goal

pub returns-in-Err-clause-taken : goal.returns-in-Err-clause-taken
returns-in-Err-clause-taken g c =
    let workers = g.L.Line.workers in
    let shape = shape_of g.L.Line.schema in
    let number = c.args.number in
    let jobs = c.args.jobs.now in
    let mine = jobs_of number (take c.loop-index.index jobs) in
    ends-first workers shape 0 (mine ++ []) (jobs_of number jobs) c.args.self.now c.takes.new.self
    (mine-begin number jobs c.loop-index.index)
    (goes-ends workers shape 0 mine [] c.args.self.now c.loop-index.self c.takes.new.self c.loop-index.invariant c.in-Err.ensures.taken)
