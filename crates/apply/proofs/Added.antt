-- A column that each partition adds, and drops again.
use Rattle.std.proofs.Common.{◌≡◌, ℕ, zero, suc, ◌%◌, ◌<◌, ◌≤◌, ◌==◌, true, false, List, [], ◌∷◌, length, map, get_or, take, None, Ok}
use Rattle.std.proofs.Common.{slice_set}
use Rattle.std.proofs.Common.{refl, sym, ap, subst, ◌∙◌, arith}
use Rattle.std.specs.Option.{option_map_or}
use Rattle.std.proofs.lemmas.Bool.{false≢true}
use Rattle.std.proofs.lemmas.List.{get_or-map, get_or-take, length-map, length-append}
use Rattle.rows.specs.declared.entry.Entry.{Entry}
use Rattle.rows.specs.declared.entry.Entry.TheVariants.{Insert, Patch, Delete, AddColumn}
use Rattle.rows.specs.declared.row_id.RowId.{RowId}
use Rattle.rows.specs.declared.value.Value.{Value}
use Rattle.rows.specs.Entries.{table_of, row_of}
use Rattle.rows.specs.Shape.{Shape, kinds_in}
use Rattle.rows.specs.Tables.{Table, Tables, kinds_of, is_fit, stands, made, widened, apply_entry}
use Rattle.rows.specs.Values.{kind_of}
use Rattle.store.specs.Changes.{fault_kind}
use Rattle.store.specs.Faults.{number_of}
use Rattle.store.specs.declared.faults.StoreFault.TheVariants.{Memory}
use Rattle.apply.specs.Blocks.{narrower, dropped}
use Rattle.apply.specs.Partitions.{tables_in}
use Rattle.apply.specs.Inner.EntryLaws.{AreEntryLaws}
use Rattle.apply.specs.Inner.Gathered.{ArePartitions, is_in, each_made}
use Rattle.apply.proofs.Changed.{apply_entry-made}
use Rattle.apply.proofs.Splits.{same-fit, same-ok, new-partitions, all-changes}
use Rattle.apply.proofs.Widened.{narrower-wider}

-- an entry that adds a column needs no row, and is each partition's
stands-free : (tables : Tables) (entry : Entry) → row_of entry ≡ None → stands tables entry ≡ true
stands-free tables (Insert table row bytes) none = cc
stands-free tables (Patch table row offset bytes) none = cc
stands-free tables (Delete table row) none = cc
stands-free tables (AddColumn table default) none = refl

each-takes : (n k : ℕ) (entry : Entry) → row_of entry ≡ None → is_in n k entry ≡ true
each-takes n k entry none = ap (λ found. option_map_or (λ (row : RowId). row.0 % n == k) found true) none

module _ (partitions : List Tables) (entry : Entry) (none : row_of entry ≡ None) (are : ArePartitions partitions)
    (fits : is_fit (tables_in partitions) entry ≡ true) where
  -- if it fits, each partition makes it
  pub one-made : (k : ℕ) (d : Tables) → k < length partitions
      → apply_entry (get_or partitions k d) entry ≡ Ok (made (get_or partitions k d) entry)
  one-made k d lt =
      apply_entry-made (get_or partitions k d) entry (same-fit (length partitions) partitions refl are entry k d lt ∙ fits)
      (stands-free (get_or partitions k d) entry none)

  own : (k : ℕ) (d : Tables) → k < length partitions → is_in (length partitions) k entry ≡ true
      → apply_entry (get_or partitions k d) entry ≡ Ok (get_or (each_made entry partitions) k d)
  own k d lt mine = one-made k d lt ∙ ap Ok (sym (get_or-map (λ (tables : Tables). made tables entry) partitions k d d lt))

  kept : (k : ℕ) (d : Tables) → k < length partitions → is_in (length partitions) k entry ≡ false
      → get_or (each_made entry partitions) k d ≡ get_or partitions k d
  kept k d lt away = absurd (false≢true (sym away ∙ each-takes (length partitions) k entry none))

  -- and so do all
  pub all-made : AreEntryLaws → 0 < length partitions
      → (apply_entry (tables_in partitions) entry ≡ Ok (tables_in (each_made entry partitions))) × ArePartitions
      (each_made entry partitions)
  all-made laws some =
      let many = length-map partitions (λ (tables : Tables). made tables entry) in (
        all-changes laws (length partitions) some entry partitions (each_made entry partitions) refl many are own kept,
        new-partitions laws (length partitions) some entry partitions (each_made entry partitions) refl many are own kept,
      )

-- ---- dropped again

dropped-widened : (tables : Tables) (table : ℕ) (default : Value) → dropped (widened tables table default) table ≡ tables
dropped-widened [] table default = refl
dropped-widened (first ∷ tables) zero default = ap (λ (first : Table). first ∷ tables) (narrower-wider default first)
dropped-widened (first ∷ tables) (suc table) default = ap (λ (tables : Tables). first ∷ tables) (dropped-widened tables table default)

pub dropped-made : (tables : Tables) (entry : Entry) → row_of entry ≡ None → dropped (made tables entry) (table_of entry) ≡ tables
dropped-made tables (Insert table row bytes) none = cc
dropped-made tables (Patch table row offset bytes) none = cc
dropped-made tables (Delete table row) none = cc
dropped-made tables (AddColumn table default) none = dropped-widened tables table default

pub dropped-each : (entry : Entry) → row_of entry ≡ None → (partitions : List Tables)
    → map (λ (tables : Tables). dropped tables (table_of entry)) (each_made entry partitions) ≡ partitions
dropped-each entry none [] = refl
dropped-each entry none (tables ∷ partitions) =
    let own = dropped-made tables entry none in
    let rest = dropped-each entry none partitions in
    λ i. own i ∷ rest i

two-widened : (tables : Tables) (table : ℕ) (default : Value) → 0 < length (kinds_of tables table)
    → 1 < length (kinds_of (widened tables table default) table)
two-widened [] table default some = absurd (omega arith)
two-widened (first ∷ tables) zero default some = omega (arith, some, length-append first.kinds (kind_of default ∷ []))
two-widened (first ∷ tables) (suc table) default some = two-widened tables table default some

-- a table that had a column has two then
pub two-made : (tables : Tables) (entry : Entry) → row_of entry ≡ None → 0 < length (kinds_of tables (table_of entry))
    → 1 < length (kinds_of (made tables entry) (table_of entry))
two-made tables (Insert table row bytes) none some = cc
two-made tables (Patch table row offset bytes) none some = cc
two-made tables (Delete table row) none some = cc
two-made tables (AddColumn table default) none some = two-widened tables table default some

-- the table, in its place
pub dropped-set : (tables : Tables) (table : ℕ) (d : Table)
    → slice_set tables table (narrower (get_or tables table d)) ≡ dropped tables table
dropped-set [] table d = refl
dropped-set (first ∷ tables) zero d = refl
dropped-set (first ∷ tables) (suc table) d = ap (λ (tables : Tables). first ∷ tables) (dropped-set tables table d)

-- where all have the table's columns alike, it has two then in each
pub two-each : (partitions : List Tables) (entry : Entry) → row_of entry ≡ None → ArePartitions partitions
    → 0 < length (kinds_of (tables_in partitions) (table_of entry)) → (k j : ℕ) (d : Tables) → k ≤ length partitions → j < k
    → 1 < length (kinds_of (get_or (take k (each_made entry partitions)) j d) (table_of entry))
two-each partitions entry none are some k j d le lt =
    let few : j < length partitions = omega (arith, le, lt) in
    let own = two-made (get_or partitions j d) entry none
    (subst (λ (shape : Shape). 0 < length (kinds_in shape (table_of entry))) (sym (are.alike j d few)) some) in
    subst (λ (tables : Tables). 1 < length (kinds_of tables (table_of entry)))
    (sym (get_or-take k (each_made entry partitions) j d lt
    ∙ get_or-map (λ (tables : Tables). made tables entry) partitions j d d few)) own

-- a change that was made of one is what the entry makes
pub one-is : (partitions : List Tables) (entry : Entry) → row_of entry ≡ None → ArePartitions partitions
    → is_fit (tables_in partitions) entry ≡ true → (k : ℕ) (d was new : Tables) → k < length partitions → was ≡ get_or partitions k d
    → apply_entry was entry ≡ Ok new → new ≡ made (get_or partitions k d) entry
one-is partitions entry none are fits k d was new lt is change =
    same-ok new (made (get_or partitions k d) entry)
    (sym change ∙ ap (λ tables. apply_entry tables entry) is ∙ one-made partitions entry none are fits k d lt)

-- and one that was refused lacks memory
pub one-lacks : (partitions : List Tables) (entry : Entry) → row_of entry ≡ None → ArePartitions partitions
    → is_fit (tables_in partitions) entry ≡ true → (k kind : ℕ) (d was : Tables) → k < length partitions → was ≡ get_or partitions k d
    → kind ≡ fault_kind true (apply_entry was entry) → kind ≡ number_of Memory
one-lacks partitions entry none are fits k kind d was lt is refused =
    refused ∙ ap (fault_kind true) (ap (λ tables. apply_entry tables entry) is ∙ one-made partitions entry none are fits k d lt)
