-- `==` of entries and commits is true exactly where they are equal, and so an equivalence.
use Rattle.std.specs.Prelude.{◌≡◌, List, ◌&&◌, Option, None, Some}
use Rattle.std.proofs.Common.{ap, refl}
use Rattle.std.specs.Bool.{Decides}
use Rattle.std.specs.Cmp.{IsEquivalence, decided, unsigned_Decides, signed_Decides, first_so, second_so}
use Rattle.std.specs.Cmp.Lexicographic.{pointwise, pointwise_decides, bytes_decides}
use Rattle.rows.specs.declared.commit.Commit.{Commit}
use Rattle.rows.specs.declared.entry.Entry.{Entry}
use Rattle.rows.specs.declared.entry.Entry.TheVariants.{Insert, Patch, Delete, AddColumn}
use Rattle.rows.specs.declared.row_id.RowId.{RowId}
use Rattle.rows.specs.declared.value.Value.{Value}
use Rattle.rows.specs.declared.value.Value.TheVariants.{Int, Octets}
use Rattle.rows.specs.Equality.{numbers_of, default_of, is_same_value, is_same_default, is_same_entry, is_same_commit}

same_row : (row other : RowId) → row.0 ≡ other.0 → row ≡ other
same_row row other e i = record { 0 = e i }

same_numbers : (entry other : Entry) → numbers_of entry ≡ numbers_of other → default_of entry ≡ default_of other → entry ≡ other
same_numbers (Insert table row bytes) (Insert table' row' bytes') e f = let rows : row ≡ row' = same_row row row' (cc) in cc
same_numbers (Insert table row bytes) (Patch table' row' offset' bytes') e f = absurd cc
same_numbers (Insert table row bytes) (Delete table' row') e f = absurd cc
same_numbers (Insert table row bytes) (AddColumn table' default') e f = absurd cc
same_numbers (Patch table row offset bytes) (Insert table' row' bytes') e f = absurd cc
same_numbers (Patch table row offset bytes) (Patch table' row' offset' bytes') e f = let rows : row ≡ row' = same_row row row' (cc) in cc
same_numbers (Patch table row offset bytes) (Delete table' row') e f = absurd cc
same_numbers (Patch table row offset bytes) (AddColumn table' default') e f = absurd cc
same_numbers (Delete table row) (Insert table' row' bytes') e f = absurd cc
same_numbers (Delete table row) (Patch table' row' offset' bytes') e f = absurd cc
same_numbers (Delete table row) (Delete table' row') e f = let rows : row ≡ row' = same_row row row' (cc) in cc
same_numbers (Delete table row) (AddColumn table' default') e f = absurd cc
same_numbers (AddColumn table default) (Insert table' row' bytes') e f = absurd cc
same_numbers (AddColumn table default) (Patch table' row' offset' bytes') e f = absurd cc
same_numbers (AddColumn table default) (Delete table' row') e f = absurd cc
same_numbers (AddColumn table default) (AddColumn table' default') e f = cc

-- `==` of values
value_decides : (value other : Value) → Decides (is_same_value value other) (value ≡ other)
value_decides (Int number) (Int other) =
    let numbers = signed_Decides number other in
    (λ e. ap Int (numbers.0 e), λ e. numbers.1 (cc))
value_decides (Int number) (Octets other) = (λ e. absurd cc, λ e. absurd cc)
value_decides (Octets bytes) (Int other) = (λ e. absurd cc, λ e. absurd cc)
value_decides (Octets bytes) (Octets other) =
    let numbers = bytes_decides bytes other in
    (λ e. ap Octets (numbers.0 e), λ e. numbers.1 (cc))

default_decides : (value other : Option Value) → Decides (is_same_default value other) (value ≡ other)
default_decides None None = (λ e. refl, λ e. refl)
default_decides None (Some other) = (λ e. absurd cc, λ e. absurd cc)
default_decides (Some value) None = (λ e. absurd cc, λ e. absurd cc)
default_decides (Some value) (Some other) =
    let values = value_decides value other in
    (λ e. ap Some (values.0 e), λ e. values.1 (cc))

pub entry_decides : (entry other : Entry) → Decides (is_same_entry entry other) (entry ≡ other)
entry_decides entry other =
    let numbers = bytes_decides (numbers_of entry) (numbers_of other) in
    let defaults = default_decides (default_of entry) (default_of other) in (
      λ e. same_numbers entry other (numbers.0 (first_so _ _ e)) (defaults.0 (second_so _ _ e)),
      λ e. λ i. numbers.1 (ap numbers_of e) i && defaults.1 (ap default_of e) i,
    )

pub entries_decide : (entries others : List Entry) → Decides (pointwise is_same_entry entries others) (entries ≡ others)
entries_decide = pointwise_decides entry_decides

pub commit_decides : (commit other : Commit) → Decides (is_same_commit commit other) (commit ≡ other)
commit_decides commit other =
    let worker = unsigned_Decides commit.worker other.worker in
    let entries = entries_decide commit.entries other.entries in (
      λ e. let w : commit.worker ≡ other.worker = worker.0 (first_so _ _ e) in
          let s : commit.entries ≡ other.entries = entries.0 (second_so _ _ e) in λ i. record { worker = w i; entries = s i },
      λ e. λ i. worker.1 (ap (λ (c : Commit). c.worker) e) i && entries.1 (ap (λ (c : Commit). c.entries) e) i,
    )

pub same_entry_equiv : IsEquivalence is_same_entry
same_entry_equiv = decided is_same_entry entry_decides

pub same_commit_equiv : IsEquivalence is_same_commit
same_commit_equiv = decided is_same_commit commit_decides
