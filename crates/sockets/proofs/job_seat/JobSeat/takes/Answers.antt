-- Each call goes on from where the one before left the seat.
use Rattle.std.proofs.Common.{[], ◌∷◌, ◌∙◌, append-nil}
use Rattle.rows.specs.Shape.{shape_of}
use Rattle.sockets.specs.JobSeats.{outcomes}
use Rattle.sockets.proofs.Taking.{after-going, after-going-whole, goes-is-ended, goes-trans}
use Rattle.sockets.proofs.job_seat.JobSeat.takes.Goals as goal

pub returns-in-Ok-None-clause-taken : goal.returns-in-Ok-None-clause-taken
returns-in-Ok-None-clause-taken g c =
    let workers = g.L.Line.workers in
    let shape = shape_of g.L.Line.schema in
    after-going workers shape (c.args.job.now ∷ []) c.args.self.now c.tries.new.self c.tries_again.new.self c.tries_again.result
    (goes-trans workers shape 0 [] [] c.args.self.now c.makes_way.new.self c.tries.new.self c.in-Ok.ensures.settled
    (rw c.in-Ok-None.field-0-is at c.in-Ok-None.ensures.tried))
    c.tries_again.ensures.taken

pub returns-in-Err-tries-clause-taken : goal.returns-in-Err-tries-clause-taken
returns-in-Err-tries-clause-taken g c =
    let workers = g.L.Line.workers in
    let shape = shape_of g.L.Line.schema in
    goes-is-ended workers shape 0 [] c.args.self.now c.tries.new.self
    (goes-trans workers shape 0 [] [] c.args.self.now c.makes_way.new.self c.tries.new.self c.in-Ok.ensures.settled
    c.in-Err-tries.ensures.tried)

pub returns-in-Ok-None-clause-whole : goal.returns-in-Ok-None-clause-whole
returns-in-Ok-None-clause-whole g c =
    let workers = g.L.Line.workers in
    let shape = shape_of g.L.Line.schema in
    after-going-whole workers shape c.args.self.now c.tries.new.self c.tries_again.new.self c.tries_again.result
    (goes-trans workers shape 0 [] [] c.args.self.now c.makes_way.new.self c.tries.new.self c.in-Ok.ensures.settled
    (rw c.in-Ok-None.field-0-is at c.in-Ok-None.ensures.tried))
    ((rw c.in-Ok-None.field-0-is at c.in-Ok-None.ensures.kept) ∙ (append-nil (outcomes c.makes_way.new.self) ∙ c.in-Ok.ensures.kept))
    c.tries_again.ensures.whole

pub returns-in-Err-tries-clause-whole : goal.returns-in-Err-tries-clause-whole
returns-in-Err-tries-clause-whole g c = λ same.
    goes-trans g.L.Line.workers (shape_of g.L.Line.schema) 0 [] [] c.args.self.now c.makes_way.new.self c.tries.new.self
    c.in-Ok.ensures.settled c.in-Err-tries.ensures.tried
