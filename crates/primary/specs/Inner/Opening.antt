-- What stands on a journal that a primary is started on, once it was made the text of what it keeps.
use Rattle.std.specs.Prelude.{◌⊎◌, ℕ, List, take}
use Rattle.journal.specs.Storing.{IsPartlyAppended, IsPartlyCut}
use Rattle.primary.specs.declared.faults.StartFault.{StartFault}
use Rattle.primary.specs.declared.faults.StartFault.TheVariants as starts

-- the journal could not be read, truncated or written, or it is out of memory: no word of its bytes
abbrev pub IsOfStore : {F : Type 0} → StartFault F → Type 0
IsOfStore (starts.Store fault) = Unit {0}
IsOfStore (starts.Journal fault) = ⊥
IsOfStore starts.Memory = Unit {0}

-- some beginning of the bytes stands, not all being truncated, or some beginning of what was missing behind the kept ones
abbrev pub IsPartlyRepaired : List ℕ → List ℕ → ℕ → List ℕ → Type 0
IsPartlyRepaired missing bytes bytes_kept new =
    IsPartlyCut bytes_kept bytes new ⊎ IsPartlyAppended (take bytes_kept bytes) missing new
