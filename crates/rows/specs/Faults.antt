-- Why a call fails.
use Rattle.std.specs.Prelude.{◌≡◌, Option, None, Some, Result, Err, ◌⊎◌, IsOk}

-- the fault of a call with this answer, out of memory aside: the answer's own, or being out of memory if it has none
abbrev pub IsFaultOf : {A F : Type 0} → Result A F → F → F → Type 0
IsFaultOf answer memory fault = ((fault ≡ memory) × IsOk answer) ⊎ (answer ≡ Err fault)

-- the fault of a call that is refused for the first fault in an order, `first`, out of memory aside: that one, or being out of
-- memory if there is none
abbrev pub IsFirstFault : {F : Type 0} → Option F → F → F → Type 0
IsFirstFault first memory fault = ((fault ≡ memory) × (first ≡ None)) ⊎ (first ≡ Some fault)
