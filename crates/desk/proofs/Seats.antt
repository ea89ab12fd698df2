-- The numbers of the seats that are not given out.
use Rattle.std.proofs.Common.{◌≡◌, ◌+◌, ℕ, suc, List, [], ◌∷◌, ◌++◌, length, arith}
use Rattle.std.specs.List.{AllByRecursion}
use Rattle.desk.specs.Keeping.{HaveNumbersFrom}
use Rattle.desk.specs.State.{SeatState}

-- one more seat has the next number
pub numbers_snoc : (number : ℕ) (seats : List SeatState) (last : SeatState) → HaveNumbersFrom number seats
    → last.number ≡ number + length seats → HaveNumbersFrom number (seats ++ last ∷ [])
numbers_snoc number [] last have is = (omega (arith, is), tt)
numbers_snoc number (seat ∷ seats) last have is = (have.0, numbers_snoc (suc number) seats last have.1 (omega (arith, is)))

-- the last seat has the number that the others leave
pub numbers_last : (number : ℕ) (seats : List SeatState) (last : SeatState) → HaveNumbersFrom number (seats ++ last ∷ [])
    → HaveNumbersFrom number seats × (last.number ≡ number + length seats)
numbers_last number [] last have = (tt, omega (arith, have.0))
numbers_last number (seat ∷ seats) last have =
    let rest = numbers_last (suc number) seats last have.1 in
    ((have.0, rest.0), omega (arith, rest.1))

-- what holds of all seats holds of the last one, and of those before it
pub all_last : (P : SeatState → Type 0) (seats : List SeatState) (last : SeatState) → AllByRecursion P (seats ++ last ∷ [])
    → AllByRecursion P seats × P last
all_last P [] last all = (tt, all.0)
all_last P (seat ∷ seats) last all =
    let rest = all_last P seats last all.1 in
    ((all.0, rest.0), rest.1)

pub all_snoc : (P : SeatState → Type 0) (seats : List SeatState) (last : SeatState) → AllByRecursion P seats → P last
    → AllByRecursion P (seats ++ last ∷ [])
all_snoc P [] last all is = (is, tt)
all_snoc P (seat ∷ seats) last all is = (all.0, all_snoc P seats last all.1 is)
