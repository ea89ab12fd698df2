-- What was pending is settled before the job is done again.
use Rattle.std.proofs.Common.{[]}
use Rattle.rows.specs.Shape.{shape_of}
use Rattle.sockets.proofs.Taking.{goes-is-ended, goes-trans}
use Rattle.sockets.proofs.job_seat.JobSeat.tries_again.Goals as goal

pub returns-in-Err-clause-taken : goal.returns-in-Err-clause-taken
returns-in-Err-clause-taken g c = c.in-Err.ensures.settled 0

pub returns-in-Err-tries-clause-taken : goal.returns-in-Err-tries-clause-taken
returns-in-Err-tries-clause-taken g c =
    let workers = g.L.Line.workers in
    let shape = shape_of g.L.Line.schema in
    goes-is-ended workers shape 0 [] c.args.self.now c.tries.new.self
    (goes-trans workers shape 0 [] [] c.args.self.now c.settles.new.self c.tries.new.self (c.in-Ok.ensures.settled 0)
    c.in-Err-tries.ensures.tried)

pub returns-in-Err-tries-clause-whole : goal.returns-in-Err-tries-clause-whole
returns-in-Err-tries-clause-whole g c = λ same.
    goes-trans g.L.Line.workers (shape_of g.L.Line.schema) 0 [] [] c.args.self.now c.settles.new.self c.tries.new.self
    (c.in-Ok.ensures.settled 0) c.in-Err-tries.ensures.tried
