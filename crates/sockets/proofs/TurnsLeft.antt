-- The turns that are left.
use Rattle.std.proofs.Common.{◌≡◌, ◌≤◌, ◌+◌, ℕ, zero, suc, Option, None, Some, Ok, Err, false, true, refl, arith}
use Rattle.std.proofs.lemmas.Bool.{true≢false, ltb-false}
use Rattle.sockets.specs.Serving.{TurnsLeft, has_turn, after_turn, completed}

pub turns_same : (turns : Option ℕ) → TurnsLeft turns turns
turns_same None = tt
turns_same (Some turns) = omega arith

pub turns_on : (old between new : Option ℕ) → TurnsLeft old between → TurnsLeft between new → TurnsLeft old new
turns_on None None None one two = tt
turns_on None None (Some new) one two = absurd two
turns_on None (Some between) new one two = absurd one
turns_on (Some old) None new one two = absurd one
turns_on (Some old) (Some between) None one two = absurd two
turns_on (Some old) (Some between) (Some new) one two = omega (arith, one, two)

-- one turn more is used up
pub turns_taken : (turns : Option ℕ) → TurnsLeft turns (after_turn turns)
turns_taken None = tt
turns_taken (Some turns) = omega arith

-- where none is left there was none
pub none_left_is : (turns : Option ℕ) → has_turn turns ≡ false → turns ≡ Some 0
none_left_is None is = absurd (true≢false is)
none_left_is (Some zero) is = refl
none_left_is (Some (suc turns)) is = absurd (omega (arith, ltb-false 0 (suc turns) is))

-- what was completed so far, and one turn more
pub completed_ok : {A B : Type 0} (F : Type 0) (old left : Option ℕ) (done : A) (other : B) → TurnsLeft old left → has_turn left ≡ true
    → completed {F = F} old (after_turn left) (Ok done) ≤ completed {F = F} old left (Ok other) + 1
completed_ok F None None done other is has = omega arith
completed_ok F None (Some left) done other is has = absurd is
completed_ok F (Some old) None done other is has = absurd is
completed_ok F (Some old) (Some left) done other is has = omega arith

pub completed_err : {B F : Type 0} (A : Type 0) (old left : Option ℕ) (fault : F) (other : B) → TurnsLeft old left → has_turn left ≡ true
    → completed {A = A} old (after_turn left) (Err fault) ≤ completed {F = F} old left (Ok other) + 0
completed_err A None None fault other is has = omega arith
completed_err A None (Some left) fault other is has = absurd is
completed_err A (Some old) None fault other is has = absurd is
completed_err A (Some old) (Some left) fault other is has = omega arith

-- before the first turn
pub completed_none : {A : Type 0} (F : Type 0) (turns : Option ℕ) (done : A) → completed {F = F} turns turns (Ok done) ≡ 0
completed_none F None done = refl
completed_none F (Some turns) done = omega arith
