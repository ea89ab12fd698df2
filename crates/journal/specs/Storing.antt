-- What a journal's store leaves after its calls, and when it counts a fault.
use Rattle.std.specs.Prelude.{◌≡◌, ℕ, ◌+◌, ◌≤◌, List, ◌++◌, length, Option, Some, Result, Ok, Err}
use Rattle.journal.specs.Recovery.{IsBeginning}

-- how many faults are counted, at most: the greatest number of 64 bits. A call that may fail is made below it
abbrev pub faults_max : ℕ
faults_max = 18446744073709551615

-- the room of a store that needs none set aside: more bytes than any list has
abbrev pub room_max : ℕ
room_max = 18446744073709551615

-- an append that failed: after the old bytes stands some beginning of the new ones
abbrev pub IsPartlyAppended : List ℕ → List ℕ → List ℕ → Type 0
IsPartlyAppended old bytes new = (front : List ℕ) × IsBeginning front bytes × (new ≡ old ++ front)

-- a truncation to so many bytes that failed: some beginning stands, and it is not shorter
abbrev pub IsPartlyCut : ℕ → List ℕ → List ℕ → Type 0
IsPartlyCut len old new = IsBeginning new old × (len ≤ length new)

-- a fault is counted, and nothing else is
abbrev pub CountsFault : {A F : Type 0} → Result A F → ℕ → ℕ → Type 0
CountsFault (Ok done) old new = new ≡ old
CountsFault (Err fault) old new = new ≡ old + 1

-- the same if a call may also be out of memory, which is no fault
abbrev pub CountsFaultOrMemory : {A F : Type 0} → Result A (Option F) → ℕ → ℕ → Type 0
CountsFaultOrMemory (Err (Some fault)) old new = new ≡ old + 1
CountsFaultOrMemory other old new = new ≡ old
