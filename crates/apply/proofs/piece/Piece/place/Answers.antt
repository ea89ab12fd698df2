-- No more than there are.
use Rattle.std.proofs.Common.{length, ap, arith}
use Rattle.apply.specs.Inner.Joins.{joined}
use Rattle.apply.proofs.Ordered.{place-within}
use Rattle.apply.proofs.piece.Piece.place.Goals as goal

pub returns-clause-few : goal.returns-clause-few
returns-clause-few c =
    let rows = joined c.as_slice.result.now in
    let same = ap (λ blocks. length (joined blocks)) c.as_slice.ensures.value in
    omega (arith, c.place.ensures, place-within c.args.row rows, same, c.self.invariant.few)
