-- What is merged so far, and what is still to come, is all.
use Rattle.std.proofs.Common.{◌≡◌, ◌+◌, length, map}
use Rattle.std.specs.Prelude.{sum}
use Rattle.desk.specs.State.{SeatState}
use Rattle.desk.proofs.parts.merged.Given as goal

abbrev pub invariant-loop-seat : goal.invariant-loop-seat
invariant-loop-seat g l =
    (l.all.parts + length l.seat-iterator.rest.items ≡ l.fn.rest.parts + length l.fn.seats.items)
    × (l.all.amount + sum (map (λ (seat : SeatState). seat.share) l.seat-iterator.rest.items)
    ≡ l.fn.rest.amount + sum (map (λ (seat : SeatState). seat.share) l.fn.seats.items))
