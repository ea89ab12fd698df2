-- Why one line does not read, where it is said of the line or memory was refused.
use Rattle.std.specs.Prelude.{◌≡◌, Result, Ok, Err}
use Rattle.script.specs.declared.faults.Reason.{Reason}
use Rattle.script.specs.declared.faults.LineFault.{LineFault}
use Rattle.script.specs.declared.faults.LineFault.TheVariants.{Because, Memory}

-- a reason that this is true of; memory that was refused says nothing
abbrev pub OrMemory : (Reason → Type 0) → LineFault → Type 0
OrMemory IsReason (Because reason) = IsReason reason
OrMemory IsReason Memory = Unit {0}

-- what was answered is what reads, or memory was refused
abbrev pub Gives : {A : Type 0} → Result A Reason → Result A LineFault → Type 0
Gives reading (Ok found) = reading ≡ Ok found
Gives reading (Err (Because reason)) = reading ≡ Err reason
Gives reading (Err Memory) = Unit {0}

-- the same, of what takes no memory
abbrev pub because : {A : Type 0} → Result A Reason → Result A LineFault
because (Ok found) = Ok found
because (Err reason) = Err (Because reason)
