-- A piece is marked as it waits.
use Rattle.dispatcher.proofs.Waiting.{marked-seen, marked-kept}
use Rattle.dispatcher.proofs.pieces.Pieces.are_marked.Goals as goal

pub returns-clause-marked : goal.returns-clause-marked
returns-clause-marked c = λ is.
    rw (← c.self.view_is) (marked-seen c.self.inside.intake c.args.pieces (c.are_marked.ensures.marked is))

pub returns-clause-not : goal.returns-clause-not
returns-clause-not c = λ is.
    rw (← c.self.view_is) (λ marked. c.are_marked.ensures.not is (marked-kept c.self.inside.intake c.args.pieces marked))
