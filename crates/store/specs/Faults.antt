-- What the faults say: the numbers of a plain store's, and why a list of commits was not applied.
use Rattle.std.specs.Prelude.{◌≡◌, ℕ, List, length, Bool, true, false, nat_lt, Result, IsErr}
use Rattle.std.specs.List.{list_any}
use Rattle.rows.specs.declared.commit.Commit.{Commit}
use Rattle.rows.specs.Tables.{Tables, Refusal}
use Rattle.store.specs.declared.faults.ApplyFault.{ApplyFault}
use Rattle.store.specs.declared.faults.ApplyFault.TheVariants as apply
use Rattle.store.specs.declared.faults.StoreFault.{StoreFault}
use Rattle.store.specs.declared.faults.StoreFault.TheVariants.{Exists, Missing, Unfit, Memory, Broken}

-- whether the commits have an entry
abbrev pub have_entries : List Commit → Bool
have_entries commits = list_any (λ commit. nat_lt 0 (length commit.entries)) commits

-- the number of each fault of a plain store
abbrev pub number_of : StoreFault → ℕ
number_of Exists = 1
number_of Missing = 2
number_of Unfit = 3
number_of Memory = 4
number_of Broken = 5

-- what holds if commits were not applied, by whether the store was whole, whether there is an entry to apply, and what they make
-- of its tables: one of them is refused, or it is out of memory, or the store was not whole
abbrev pub FailsAs : Bool → Bool → Result Tables Refusal → ApplyFault → Type 0
FailsAs whole some changes apply.Inconsistent = (whole ≡ true) × IsErr changes
FailsAs whole some changes apply.Memory = (whole ≡ true) × (some ≡ true)
FailsAs whole some changes apply.Broken = whole ≡ false
