-- Each row's values are of its columns' kinds: an insert leaves such values, a patch another of the same kind.
use Rattle.std.proofs.Common.{◌≡◌, ℕ, suc, ◌+◌, ◌-◌, ◌≤◌, Bool, true, false, cond, ◌&&◌, ◌==◌, List, [], ◌∷◌, ◌++◌, length, take, drop}
use Rattle.std.proofs.Common.{Option, None, Some, Result, Ok, Err, nat_lt, refl, sym, ap, subst, ◌∙◌, arith}
use Rattle.std.specs.Prelude.{IfSome, slice_get}
use Rattle.std.specs.List.{slice_set}
use Rattle.std.specs.Result.{is_ok}
use Rattle.std.specs.Option.{unwrap_or}
use Rattle.std.proofs.lemmas.Bool.{and_from, and_parts, eq-eqb, eqb-true, false≢true}
use Rattle.std.proofs.lemmas.List.{length-take-le, length-drop}
use Rattle.std.proofs.lemmas.Option.{same_Some}
use Rattle.std.proofs.lemmas.List.Sums.{sum_by-cons}
use Rattle.rows.specs.declared.entry.Entry.{Entry}
use Rattle.rows.specs.declared.entry.Entry.TheVariants.{Insert, Patch, Delete, AddColumn}
use Rattle.rows.specs.declared.kind.Kind.{Kind}
use Rattle.rows.specs.declared.kind.Kind.TheVariants as kinds
use Rattle.rows.specs.declared.value.Value.{Value}
use Rattle.rows.specs.declared.value.Value.TheVariants as values
use Rattle.rows.specs.declared.faults.EntryFault.TheVariants.{WrongSize}
use Rattle.rows.specs.Shape.{Shape, width_of, row_width, kinds_in, column_from, column_at}
use Rattle.rows.specs.Values.{value_of, values_of, is_of_kind, are_of_kinds, kind_of}
use Rattle.rows.specs.Entries.{table_of, sized, addable, has_room, fitting, shape_after_one}
use Rattle.rows.specs.Tables.{Tables, Refusal, opening, shape_in, RowsAreOfKinds, patched_row, apply_entry, apply_entries}
use Rattle.rows.specs.Commits.{apply_commits, tables_after, is_of}
use Rattle.rows.specs.Laws.{EntryKeepsRows, CommitsKeepRows, VersionsAreOfKinds}
use Rattle.rows.specs.RowAfter.{row_after_one, row_after_entry}
use Rattle.rows.proofs.Presence.{apply_entry-parts, and_then-parts, of-table}
use Rattle.rows.proofs.Widening.{added-here, added-elsewhere}
use Rattle.rows.proofs.RowLaws.{row_in, opening-none, Leaves-change}

-- the value at the front of enough bytes is of its kind
value_of-kind : (kind : Kind) (bytes : List ℕ) → width_of kind ≤ length bytes → is_of_kind (value_of kind bytes) kind ≡ true
value_of-kind kinds.Int bytes h = refl
value_of-kind (kinds.Octets width) bytes h = eq-eqb (length (take width bytes)) width (length-take-le width bytes h)

-- and so are the values of a row, one for each column
pub values_of-kinds : (columns : List Kind) (bytes : List ℕ) → row_width columns ≤ length bytes
    → are_of_kinds (values_of columns bytes) columns ≡ true
values_of-kinds [] bytes h = refl
values_of-kinds (kind ∷ columns) bytes h =
    let whole = sum_by-cons width_of kind columns in
    and_from _ _ (value_of-kind kind bytes (omega (arith, whole)))
    (values_of-kinds columns (drop (width_of kind) bytes) (omega (arith, whole, length-drop (width_of kind) bytes)))

-- a value of a column's kind where it stands, the column being told behind `before` others
put-kinds : (before : ℕ) (columns : List Kind) (offset size column : ℕ) (kind : Kind) (values : List Value) (bytes : List ℕ)
    → column_from before columns offset size ≡ Some (column, kind) → size ≤ length bytes → are_of_kinds values columns ≡ true
    → (before ≤ column) × (are_of_kinds (slice_set values (column - before) (value_of kind bytes)) columns ≡ true)
put-kinds before [] offset size column kind values bytes e wide h = absurd cc
put-kinds before (first ∷ columns) offset size column kind [] bytes e wide h = absurd cc
put-kinds before (first ∷ columns) offset size column kind (value ∷ values) bytes e wide h =
    by ((offset == 0) && (size == width_of first)) (nat_lt offset (width_of first)) refl
    (λ e. put-kinds (before + 1) columns (offset - width_of first) size column kind values bytes e wide parts.1) e
  where
    parts : (is_of_kind value first ≡ true) × (are_of_kinds values columns ≡ true)
    parts = and_parts (is_of_kind value first) (are_of_kinds values columns) h

    here : (before ≡ column) → (first ≡ kind) → size ≡ width_of first
        → (before ≤ column) × (are_of_kinds (slice_set (value ∷ values) (column - before) (value_of kind bytes)) (first ∷ columns) ≡ true)
    here at is same =
        let none : column - before ≡ 0 = omega (arith, at) in
        (omega (arith, at), rw (none, ← is) (and_from _ _ (value_of-kind first bytes (omega (arith, same, wide))) parts.1))

    by : (found short : Bool) → ((offset == 0) && (size == width_of first)) ≡ found
        → (column_from (before + 1) columns (offset - width_of first) size ≡ Some (column, kind) → (before + 1 ≤ column)
        × (are_of_kinds (slice_set values (column - (before + 1)) (value_of kind bytes)) columns ≡ true))
        → cond found (Some (before, first)) (cond short None (column_from (before + 1) columns (offset - width_of first) size))
        ≡ Some (column, kind)
        → (before ≤ column) × (are_of_kinds (slice_set (value ∷ values) (column - before) (value_of kind bytes)) (first ∷ columns) ≡ true)
    by true short f others e =
        let same = same_Some (before, first) (column, kind) e in
        here (ap (λ (found : ℕ × Kind). found.0) same) (ap (λ (found : ℕ × Kind). found.1) same)
        (eqb-true size (width_of first) (and_parts (offset == 0) (size == width_of first) f).1)
    by false true f others e = absurd cc
    by false false f others e =
        let behind = others e in
        let more : column - before ≡ suc (column - (before + 1)) = omega (arith, behind.0) in
        (omega (arith, behind.0), rw more (and_from _ _ parts.0 behind.1))

-- a patched row
pub patched_row-kinds : (columns : List Kind) (offset : ℕ) (bytes : List ℕ) (values : List Value) → are_of_kinds values columns ≡ true
    → are_of_kinds (patched_row columns offset bytes values) columns ≡ true
patched_row-kinds columns offset bytes values h = by (column_at columns offset (length bytes)) refl
  where
    by : (found : Option (ℕ × Kind)) → column_at columns offset (length bytes) ≡ found
        → are_of_kinds (patched_row columns offset bytes values) columns ≡ true
    by None e = rw e h
    by (Some column) e =
        let first : column.0 ≡ column.0 - 0 = omega arith in
        rw (e, first) (put-kinds 0 columns offset (length bytes) column.0 column.1 values bytes e (omega arith) h).1

-- a value is of its kind, and a row with one more value of the kinds with one more
own-kind : (value : Value) → is_of_kind value (kind_of value) ≡ true
own-kind (values.Int number) = refl
own-kind (values.Octets bytes) = eq-eqb (length bytes) (length bytes) refl

one-more-kind : (row : List Value) (columns : List Kind) (value : Value) → are_of_kinds row columns ≡ true
    → are_of_kinds (row ++ value ∷ []) (columns ++ kind_of value ∷ []) ≡ true
one-more-kind [] [] value h = and_from _ _ (own-kind value) refl
one-more-kind [] (kind ∷ columns) value h = absurd cc
one-more-kind (first ∷ row) [] value h = absurd cc
one-more-kind (first ∷ row) (kind ∷ columns) value h =
    let parts = and_parts (is_of_kind first kind) (are_of_kinds row columns) h in
    and_from _ _ parts.0 (one-more-kind row columns value parts.1)

-- what an entry that fits leaves of a row
module _ (shape : Shape) (table row : ℕ) where
  abbrev AreOfKinds : List Kind → Option (List Value) → Type 0
  AreOfKinds columns was = IfSome was (λ values. are_of_kinds values columns ≡ true)

  pub sized-wide : (found : Option (List Kind)) (size : ℕ) → slice_get shape table ≡ found → is_ok (sized found size) ≡ true
      → row_width (kinds_in shape table) ≡ size
  sized-wide None size e h = absurd cc
  sized-wide (Some columns) size e h = rw e (by (size == row_width columns) (eqb-true size (row_width columns)) h)
    where
      by : (same : Bool) → (same ≡ true → size ≡ row_width columns)
          → is_ok {T = Unit {0}} (cond same (Ok tt) (Err WrongSize)) ≡ true → row_width columns ≡ size
      by true is h = sym (is refl)
      by false is h = absurd cc

  -- where a column is added, the kinds have one more
  added-kinds : (default : Value) → is_ok (addable (slice_get shape table) default) ≡ true
      → kinds_in (shape_after_one shape (AddColumn table default)) table ≡ kinds_in shape table ++ kind_of default ∷ []
  added-kinds default h = by (slice_get shape table) refl h
    where
      by : (found : Option (List Kind)) → slice_get shape table ≡ found → is_ok (addable found default) ≡ true
          → kinds_in (shape_after_one shape (AddColumn table default)) table ≡ kinds_in shape table ++ kind_of default ∷ []
      by None e h = absurd cc
      by (Some columns) e h = rw (added-here shape table default, e) (tested (has_room columns (kind_of default)) h)
        where
          tested : (room : Bool) → is_ok {T = Unit {0}} (cond room (Ok tt) (Err WrongSize)) ≡ true
              → unwrap_or (cond room (Some (columns ++ kind_of default ∷ [])) (Some columns)) [] ≡ columns ++ kind_of default ∷ []
          tested true h = refl
          tested false h = absurd cc

  one-of-kinds : (entry : Entry) (was : Option (List Value)) → table_of entry ≡ table → is_ok (fitting shape entry) ≡ true
      → AreOfKinds (kinds_in shape table) was
      → AreOfKinds (kinds_in (shape_after_one shape entry) table) (row_after_one (kinds_in shape table) entry was)
  one-of-kinds (Insert at id bytes) None e h was =
      let fits : is_ok (sized (slice_get shape table) (length bytes)) ≡ true =
      ap (λ t. is_ok (sized (slice_get shape t) (length bytes))) (sym e) ∙ h in
      values_of-kinds (kinds_in shape table) bytes (omega (arith, sized-wide (slice_get shape table) (length bytes) refl fits))
  one-of-kinds (Insert at id bytes) (Some values) e h was = was
  one-of-kinds (Patch at id offset bytes) None e h was = tt
  one-of-kinds (Patch at id offset bytes) (Some values) e h was = patched_row-kinds (kinds_in shape table) offset bytes values was
  one-of-kinds (Delete at id) was' e h was = tt
  one-of-kinds (AddColumn at default) None e h was = tt
  one-of-kinds (AddColumn at default) (Some values) e h was =
      let fits : is_ok (addable (slice_get shape table) default) ≡ true =
      ap (λ t. is_ok (addable (slice_get shape t) default)) (sym e) ∙ h in
      rw (e, added-kinds default fits) (one-more-kind values (kinds_in shape table) default was)

  -- an entry that is not of a row leaves the kinds of the row's table
  other-kinds : (entry : Entry) → is_of table row entry ≡ false → kinds_in (shape_after_one shape entry) table ≡ kinds_in shape table
  other-kinds (Insert at id bytes) h = refl
  other-kinds (Patch at id offset bytes) h = refl
  other-kinds (Delete at id) h = refl
  other-kinds (AddColumn at default) h =
      ap (λ found. unwrap_or found []) (added-elsewhere shape at default table (λ e. false≢true (sym h ∙ eq-eqb at table (sym e))))

  entry-of-kinds : (entry : Entry) (was : Option (List Value)) → is_ok (fitting shape entry) ≡ true → AreOfKinds (kinds_in shape table) was
      → AreOfKinds (kinds_in (shape_after_one shape entry) table) (row_after_entry shape table row entry was)
  entry-of-kinds entry was h kept = by (is_of table row entry) refl
    where
      by : (here : Bool) → is_of table row entry ≡ here
          → AreOfKinds (kinds_in (shape_after_one shape entry) table) (cond here (row_after_one (kinds_in shape table) entry was) was)
      by true e = one-of-kinds entry was (of-table table row entry e) h kept
      by false e = rw (other-kinds entry e) kept

pub entry-rows : EntryKeepsRows
entry-rows tables after entry kept h table row =
    let leaves = Leaves-change tables after entry h in
    let fits = (apply_entry-parts tables after entry h).0 in
    let left = entry-of-kinds (shape_in tables) table row entry (row_in tables table row) fits (kept table row) in
    rw (leaves.rows table row, leaves.kinds) left

entries-rows : (tables after : Tables) (entries : List Entry) → RowsAreOfKinds tables → apply_entries tables entries ≡ Ok after
    → RowsAreOfKinds after
entries-rows tables after [] kept h =
    let e : tables ≡ after = cc in
    subst RowsAreOfKinds e kept
entries-rows tables after (entry ∷ entries) kept h =
    let parts = and_then-parts _ (apply_entry tables entry) after h in
    entries-rows parts.0 after entries (entry-rows tables parts.0 entry kept parts.1) parts.2

pub commits-rows : CommitsKeepRows
commits-rows tables after [] kept h =
    let e : tables ≡ after = cc in
    subst RowsAreOfKinds e kept
commits-rows tables after (commit ∷ commits) kept h =
    let parts = and_then-parts _ (apply_entries tables commit.entries) after h in
    commits-rows parts.0 after commits (entries-rows tables parts.0 commit.entries kept parts.1) parts.2

-- at the opening there are no rows
opening-rows : (shape : Shape) → RowsAreOfKinds (opening shape)
opening-rows shape table row = rw (opening-none shape table row) tt

pub versions-rows : VersionsAreOfKinds
versions-rows shape commits version = by (apply_commits (opening shape) (take version commits)) refl
  where
    by : (after : Result Tables Refusal) → apply_commits (opening shape) (take version commits) ≡ after
        → RowsAreOfKinds (tables_after shape commits version)
    by (Ok after) e = rw e (commits-rows (opening shape) after (take version commits) (opening-rows shape) e)
    by (Err refusal) e = rw e (opening-rows shape)
