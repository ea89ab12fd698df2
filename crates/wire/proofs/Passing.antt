-- A value that comes out of a test has passed it.
use Rattle.std.proofs.Common.{◌≡◌, Bool, true, false, cond, Option, Some, None, Result, Ok, Err, refl}

pub guarded : {A : Type 0} (b : Bool) (o : Option A) (y : A) → cond b None o ≡ Some y → (b ≡ false) × (o ≡ Some y)
guarded true o y e = absurd cc
guarded false o y e = (refl, e)

pub passed : {A E : Type 0} (b : Bool) (fault : E) (r : Result A E) (y : A) → cond b (Err fault) r ≡ Ok y → (b ≡ false) × (r ≡ Ok y)
passed true fault r y e = absurd cc
passed false fault r y e = (refl, e)
