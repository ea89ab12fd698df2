-- What an entry makes of tables: each row's values, by the laws of one entry, and the order of the rows.
use Rattle.std.proofs.Common.{◌≡◌, ℕ, ◌<◌, Bool, true, false, not, List, [], ◌∷◌, length, Option, Ok}
use Rattle.std.proofs.Common.{slice_set, refl, sym, ap, subst, ◌∙◌, inl, inr}
use Rattle.std.proofs.lemmas.Bool.{cases_eq}
use Rattle.rows.specs.declared.entry.Entry.{Entry}
use Rattle.rows.specs.declared.entry.Entry.TheVariants.{Insert, Patch, Delete, AddColumn}
use Rattle.rows.specs.declared.value.Value.{Value}
use Rattle.rows.specs.Tables.{Rows, Table, Tables, rows_of, kinds_of, row_at, is_row_at, with_column}
use Rattle.rows.specs.Tables.{is_fit, stands, refusal_of, made, change_where, apply_entry}
use Rattle.rows.specs.Values.{values_of}
use Rattle.apply.specs.Inner.EntryLaws.{AreEntryLaws}
use Rattle.apply.specs.Orders.{AllOver, Rising}
use Rattle.apply.proofs.Joined.{rising-with_patch}
use Rattle.apply.proofs.Ordered.{rising-with_row, rising-without_row}

-- a row's values in tables
abbrev pub row_in : Tables → ℕ → ℕ → Option (List Value)
row_in tables table row = row_at (rows_of tables table) row

-- a change that meets what it needs
pub apply_entry-made : (tables : Tables) (entry : Entry) → is_fit tables entry ≡ true → stands tables entry ≡ true
    → apply_entry tables entry ≡ Ok (made tables entry)
apply_entry-made tables entry fits right =
    ap (λ fits. change_where fits (stands tables entry) (refusal_of entry) (made tables entry)) fits
    ∙ ap (λ right. change_where true right (refusal_of entry) (made tables entry)) right

-- ---- the rows still rise

-- each table's rows stand in rising identifier
abbrev pub Rises : Tables → Type 0
Rises tables = (table : ℕ) → Rising (rows_of tables table)

over-with_column : (default : Value) (low : ℕ) (rows : Rows) → AllOver low rows → AllOver low (with_column default rows)
over-with_column default low [] over = tt
over-with_column default low (row ∷ rows) over = (over.0, over-with_column default low rows over.1)

pub rising-with_column : (default : Value) (rows : Rows) → Rising rows → Rising (with_column default rows)
rising-with_column default [] rise = tt
rising-with_column default (row ∷ rows) rise = (over-with_column default row.0 rows rise.0, rising-with_column default rows rise.1)

rises-set : AreEntryLaws → (tables : Tables) (table : ℕ) (new : Table) → table < length tables → Rises tables → Rising new.rows
    → Rises (slice_set tables table new)
rises-set laws tables table new within rise one other = elim (cases_eq other table) [
  | inl same ↦ subst (λ t. Rising (rows_of (slice_set tables table new) t)) (sym same)
      (subst Rising (sym (laws.replaced tables table new within)) one)
  | inr apart ↦ subst Rising (sym (laws.others tables table other new apart)) (rise other)
]

rises-made : AreEntryLaws → (tables : Tables) (entry : Entry) → is_fit tables entry ≡ true → stands tables entry ≡ true → Rises tables
    → Rises (made tables entry)
rises-made laws tables (Insert table row bytes) fits right rise =
    rises-set laws tables table _ (laws.within tables (Insert table row bytes) fits) rise
    (rising-with_row row.0 (values_of (kinds_of tables table) bytes) (rows_of tables table) (rise table)
    (negated (is_row_at tables table row.0) right))
  where
    negated : (b : Bool) → not b ≡ true → b ≡ false
    negated true e = sym e
    negated false e = refl
rises-made laws tables (Patch table row offset bytes) fits right rise =
    rises-set laws tables table _ (laws.within tables (Patch table row offset bytes) fits) rise
    (rising-with_patch (kinds_of tables table) (rows_of tables table) row.0 offset bytes (rise table))
rises-made laws tables (Delete table row) fits right rise =
    rises-set laws tables table _ (laws.within tables (Delete table row) fits) rise
    (rising-without_row row.0 (rows_of tables table) (rise table))
rises-made laws tables (AddColumn table default) fits right rise =
    rises-set laws tables table _ (laws.within tables (AddColumn table default) fits) rise
    (rising-with_column default (rows_of tables table) (rise table))

pub rises-change : AreEntryLaws → (tables after : Tables) (entry : Entry) → Rises tables → apply_entry tables entry ≡ Ok after → Rises after
rises-change laws tables after entry rise h =
    let was = laws.made tables after entry h in
    subst Rises was.2 (rises-made laws tables entry was.0 was.1 rise)
