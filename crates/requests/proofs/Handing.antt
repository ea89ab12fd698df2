-- What one call leaves of the input.
use Rattle.std.proofs.Common.{◌≡◌, ℕ, List, [], Bool, false, Option, Err, ◌⊎◌, inl, inr}
use Rattle.std.specs.Io.KnownBytes.{Consumes}
use Rattle.std.proofs.lemmas.Bool.{both_ways}
use Rattle.std.specs.declared.result.Result.{Result}
use Rattle.requests.specs.declared.lines.Input.{Input}
use Rattle.requests.specs.declared.lines.InputFault.{InputFault}
use Rattle.requests.specs.declared.lines.InputFault.TheVariants.{Read, TooLong, Memory}
use Rattle.requests.specs.Lines.{Skips, Takes, Hands, EndsOnlyAtEnd, IsOfReading}
use Rattle.requests.proofs.Taking.{skips-both, skips-then-nothing}

-- a line is skipped as before, and then in this call; looking at the bytes changes nothing
skips-on : (was before skipped cut : Bool) (old left middle same : Option (List ℕ)) → Skips was old before left
    → Skips before left skipped middle → cut ≡ skipped → same ≡ middle → Skips was old cut same
skips-on was before skipped cut old left middle same one two is-cut is =
    rw is-cut (rw is (skips-both was before skipped old left middle one two))

-- and then comes an answer
pub hands-after : (ended was before skipped cut now : Bool) (old left middle same new : Option (List ℕ)) (answer : Result Input InputFault)
    → Skips was old before left → Skips before left skipped middle → cut ≡ skipped → same ≡ middle → Takes ended cut same now new answer
    → Hands ended was old now new answer
hands-after ended was before skipped cut now old left middle same new answer one two is-cut is takes =
    record { cut = cut; middle = same; skips = skips-on was before skipped cut old left middle same one two is-cut is; takes = takes }

-- or more is read
pub skips-after : (was before skipped cut now : Bool) (old left middle same new : Option (List ℕ)) → Skips was old before left
    → Skips before left skipped middle → cut ≡ skipped → same ≡ middle → now ≡ cut → Consumes same new [] → Skips was old now new
skips-after was before skipped cut now old left middle same new one two is-cut is stays nothing =
    rw stays (skips-then-nothing was cut old same new (skips-on was before skipped cut old left middle same one two is-cut is) nothing)

-- a fault of no line takes nothing
pub takes-fault : (ended cut now : Bool) (old new : Option (List ℕ)) (fault : InputFault) → IsOfReading fault → now ≡ cut
    → Consumes old new [] → Takes ended cut old now new (Err fault)
takes-fault ended cut now old new (Read error) is stays nothing = (stays, nothing)
takes-fault ended cut now old new (TooLong front) is stays nothing = absurd is
takes-fault ended cut now old new Memory is stays nothing = (stays, nothing)

or-other : {P Q R : Type 0} → (P → ⊥) → P ⊎ Q → R ⊎ Q
or-other refute (inl one) = absurd (refute one)
or-other refute (inr other) = inr other

-- input that had not ended ends only where the reader has nothing left
pub ends-now : (was before now : Bool) (remaining : Option (List ℕ)) → before ≡ false → EndsOnlyAtEnd before now remaining
    → EndsOnlyAtEnd was now remaining
ends-now was before now remaining opened ends is = or-other (both_ways before opened) (ends is)
