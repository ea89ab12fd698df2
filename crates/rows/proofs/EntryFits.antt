-- What an answer says, where a test gave it.
use Rattle.std.proofs.Common.{◌≡◌, Bool, true, false, cond, Result, Ok, Err, refl, sym, subst}
use Rattle.std.specs.Result.{OnOk}
use Rattle.rows.specs.declared.faults.EntryFault.{EntryFault}

-- it is Ok only where the test passed
pub ok-passed : {P : Type 0} (result : Result (Unit {0}) EntryFault) (test : Bool) (fault : EntryFault)
    → result ≡ cond test (Ok tt) (Err fault) → (test ≡ true → P) → OnOk result P
ok-passed {P = P} result true fault is holds = subst (λ result. OnOk result P) (sym is) (holds refl)
ok-passed {P = P} result false fault is holds = subst (λ result. OnOk result P) (sym is) tt
