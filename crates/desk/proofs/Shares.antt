-- What new seats have of the ledger.
use Rattle.std.proofs.Common.{◌≡◌, refl, ◌∙◌, arith, List, [], ◌∷◌, map}
use Rattle.std.proofs.lemmas.List.Sums.{sum-map, sum_by-cons}
use Rattle.std.specs.Prelude.{sum}
use Rattle.std.specs.List.{AllByRecursion}
use Rattle.primary.specs.State.{Primary}
use Rattle.desk.specs.State.{SeatState, IsNew}

pub none_shared : (first : Primary) (seats : List SeatState) → AllByRecursion (IsNew first) seats
    → sum (map (λ (seat : SeatState). seat.share) seats) ≡ 0
none_shared first [] are = refl
none_shared first (seat ∷ seats) are =
    let f = λ (s : SeatState). s.share in
    sum-map f (seat ∷ seats)
    ∙ (sum_by-cons f seat seats ∙ omega (arith, are.0.share, sum-map f seats, none_shared first seats are.1))
