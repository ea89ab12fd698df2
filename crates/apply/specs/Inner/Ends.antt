-- How a list of commits ended at a partition.
use Rattle.std.specs.Prelude.{◌≡◌, List, length, Bool, true, Option, None, Some, Result, Ok, nat_lt}
use Rattle.rows.specs.declared.entry.Entry.{Entry}
use Rattle.rows.specs.Tables.{Tables, Refusal, apply_entries}
use Rattle.store.specs.Faults.{FailsAs}
use Rattle.store.specs.declared.faults.ApplyFault.{ApplyFault}
use Rattle.apply.specs.declared.partition.Partition.{Partition}

-- all its changes were made, which leaves these tables; or why not, told of whether there is an entry
abbrev pub EndsAs : Bool → Result Tables Refusal → Tables → Option ApplyFault → Type 0
EndsAs some changes tables None = changes ≡ Ok tables
EndsAs some changes tables (Some fault) = FailsAs true some changes fault

-- entries are applied to tables unless one before them failed; the first failure is kept
abbrev pub GoesOnAs : Option ApplyFault → List Entry → Tables → Tables → Option ApplyFault → Type 0
GoesOnAs None entries old new fault = EndsAs (nat_lt 0 (length entries)) (apply_entries old entries) new fault
GoesOnAs (Some failed) entries old new fault = fault ≡ Some failed

-- the same of a partition before and after
abbrev pub GoesOn : List Entry → Partition → Partition → Type 0
GoesOn entries old new = GoesOnAs old.fault entries old.tables.items new.tables.items new.fault
