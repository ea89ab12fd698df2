-- What an entry makes of a row, by the kinds of its table's columns alone, and which entries leave nothing of others.
use Rattle.std.proofs.Common.{◌≡◌, ℕ, Bool, true, false, cond, ◌==◌, not, List, [], ◌∷◌, ◌++◌, length, Option, None, Some, Ok, Err}
use Rattle.std.proofs.Common.{slice_get, refl, sym, ap, subst, ◌∙◌, inl, inr}
use Rattle.std.specs.List.{filter, slice_set}
use Rattle.std.specs.Option.{option_map, is_some}
use Rattle.std.specs.Result.{is_ok}
use Rattle.std.proofs.lemmas.Bool.{and_parts, eqb-true, cases_eq}
use Rattle.std.proofs.lemmas.List.{set-set, set_comm}
use Rattle.std.proofs.lemmas.Option.{same_Some}
use Rattle.rows.specs.declared.entry.Entry.{Entry}
use Rattle.rows.specs.declared.entry.Entry.TheVariants.{Insert, Patch, Delete, AddColumn}
use Rattle.rows.specs.declared.faults.EntryFault.{EntryFault}
use Rattle.rows.specs.declared.faults.EntryFault.TheVariants.{WrongSize}
use Rattle.rows.specs.declared.kind.Kind.{Kind}
use Rattle.rows.specs.declared.row_id.RowId.{RowId}
use Rattle.rows.specs.declared.value.Value.{Value}
use Rattle.rows.specs.Shape.{kinds_in, Shape, row_width, column_at}
use Rattle.rows.specs.Values.{value_of, kind_of}
use Rattle.rows.specs.Entries.{table_of, has_room, fitting, shape_after_one, shape_after}
use Rattle.rows.specs.Tables.{patched_row}
use Rattle.rows.specs.Commits.{is_of}
use Rattle.rows.specs.RowAfter.{inserted_row, row_after_one, row_after_entry, row_after_fit}
use Rattle.mvcc.specs.Inner.OwnRows.{supersedes}
use Rattle.mvcc.specs.Inner.Keys.{adds_column, AreOfRows}
use Rattle.mvcc.proofs.Keys.{of-table}

-- what an entry of a row makes of it, in a table with columns of these kinds, or in none
abbrev pub effect : Option (List Kind) → Entry → Option (List Value) → Option (List Value)
effect None entry was = was
effect (Some kinds) (Insert table row bytes) was = cond (length bytes == row_width kinds) (inserted_row kinds bytes was) was
effect (Some kinds) (Patch table row offset bytes) was = option_map (patched_row kinds offset bytes) was
effect (Some kinds) (Delete table row) was = None
effect (Some kinds) (AddColumn table default) was =
    cond (has_room kinds (kind_of default)) (option_map (λ values. values ++ default ∷ []) was) was

-- what an entry makes of a row of tables of that shape
abbrev pub step : Shape → ℕ → ℕ → Entry → Option (List Value) → Option (List Value)
step shape table row entry was = cond (is_ok (fitting shape entry)) (row_after_entry shape table row entry was) was

-- a test that was passed or not
tested : {X : Type 0} {F : Type 0} (b : Bool) (fault : F) (x y : X)
    → cond (is_ok {T = Unit {0}} {E = F} (cond b (Ok tt) (Err fault))) x y ≡ cond b x y
tested true fault x y = refl
tested false fault x y = refl

alike : {X : Type 0} (b : Bool) (x : X) → cond b x x ≡ x
alike true x = refl
alike false x = refl

-- bytes that are no column's change nothing
patched-none : (kinds : List Kind) (offset : ℕ) (bytes : List ℕ) (was : Option (List Value)) → column_at kinds offset (length bytes) ≡ None
    → option_map (patched_row kinds offset bytes) was ≡ was
patched-none kinds offset bytes None e = refl
patched-none kinds offset bytes (Some values) e = rw e refl

fits-patch : (kinds : List Kind) (offset : ℕ) (bytes : List ℕ) (fault : EntryFault) (was : Option (List Value))
    → cond (is_ok {T = Unit {0}} {E = EntryFault} (cond (is_some (column_at kinds offset (length bytes))) (Ok tt) (Err fault)))
    (option_map (patched_row kinds offset bytes) was) was ≡ option_map (patched_row kinds offset bytes) was
fits-patch kinds offset bytes fault was = by (column_at kinds offset (length bytes)) refl
  where
    by : (found : Option (ℕ × Kind)) → column_at kinds offset (length bytes) ≡ found
        → cond (is_ok {T = Unit {0}} {E = EntryFault} (cond (is_some (column_at kinds offset (length bytes))) (Ok tt) (Err fault)))
        (option_map (patched_row kinds offset bytes) was) was ≡ option_map (patched_row kinds offset bytes) was
    by None e =
        ap (λ found. cond (is_ok {T = Unit {0}} {E = EntryFault} (cond (is_some found) (Ok tt) (Err fault)))
        (option_map (patched_row kinds offset bytes) was) was) e ∙ sym (patched-none kinds offset bytes was e)
    by (Some column) e =
        ap (λ found. cond (is_ok {T = Unit {0}} {E = EntryFault} (cond (is_some found) (Ok tt) (Err fault)))
        (option_map (patched_row kinds offset bytes) was) was) e

-- the effect of an entry is what it makes of its row where it fits
fits-effect : (shape : Shape) (entry : Entry) (was : Option (List Value))
    → cond (is_ok (fitting shape entry)) (row_after_one (kinds_in shape (table_of entry)) entry was) was ≡ effect
    (slice_get shape (table_of entry)) entry was
fits-effect shape entry was = by (slice_get shape (table_of entry)) refl
  where
    of_kinds : (kinds : List Kind) (entry : Entry) → slice_get shape (table_of entry) ≡ Some kinds
        → cond (is_ok (fitting shape entry)) (row_after_one (kinds_in shape (table_of entry)) entry was) was ≡ effect (Some kinds) entry was
    of_kinds kinds (Insert table row bytes) e = rw e (tested (length bytes == row_width kinds) _ (inserted_row kinds bytes was) was)
    of_kinds kinds (Patch table row offset bytes) e = rw e (fits-patch kinds offset bytes _ was)
    of_kinds kinds (Delete table row) e = rw e refl
    of_kinds kinds (AddColumn table default) e =
        rw e (tested (has_room kinds (kind_of default)) WrongSize (option_map (λ values. values ++ default ∷ []) was) was)

    of_none : (entry : Entry) → slice_get shape (table_of entry) ≡ None
        → cond (is_ok (fitting shape entry)) (row_after_one (kinds_in shape (table_of entry)) entry was) was ≡ was
    of_none (Insert table row bytes) e = rw e refl
    of_none (Patch table row offset bytes) e = rw e refl
    of_none (Delete table row) e = rw e refl
    of_none (AddColumn table default) e = rw e refl

    by : (found : Option (List Kind)) → slice_get shape (table_of entry) ≡ found
        → cond (is_ok (fitting shape entry)) (row_after_one (kinds_in shape (table_of entry)) entry was) was ≡ effect
        (slice_get shape (table_of entry)) entry was
    by None e = of_none entry e ∙ ap (λ found. effect found entry was) (sym e)
    by (Some kinds) e = of_kinds kinds entry e ∙ ap (λ found. effect found entry was) (sym e)

-- an entry of this row has its effect on it, and any other none
pub step-is : (shape : Shape) (table row : ℕ) (entry : Entry) (was : Option (List Value))
    → step shape table row entry was ≡ cond (is_of table row entry) (effect (slice_get shape table) entry was) was
step-is shape table row entry was = by (is_of table row entry) refl
  where
    by : (here : Bool) → is_of table row entry ≡ here
        → step shape table row entry was ≡ cond (is_of table row entry) (effect (slice_get shape table) entry was) was
    by false e = rw e (alike (is_ok (fitting shape entry)) was)
    by true e =
        let same : table_of entry ≡ table = of-table table row entry e in
        let here =
        subst (λ table. cond (is_ok (fitting shape entry)) (row_after_one (kinds_in shape table) entry was) was ≡ effect
        (slice_get shape table) entry was) same (fits-effect shape entry was) in
        rw e here

-- entries of rows leave the kinds
kept-one : (shape : Shape) (entry : Entry) → adds_column entry ≡ false → shape_after_one shape entry ≡ shape
kept-one shape (Insert table row bytes) h = refl
kept-one shape (Patch table row offset bytes) h = refl
kept-one shape (Delete table row) h = refl
kept-one shape (AddColumn table default) h = absurd cc

pub kept : (shape : Shape) (entries : List Entry) → AreOfRows entries → shape_after shape entries ≡ shape
kept shape [] h = refl
kept shape (entry ∷ entries) h = kept (shape_after_one shape entry) entries h.1 ∙ kept-one shape entry h.0

-- so the first of them is a step
pub first-step : (shape : Shape) (table row : ℕ) (entry : Entry) (entries : List Entry) (was : Option (List Value))
    → adds_column entry ≡ false
    → row_after_fit shape table row (entry ∷ entries) was ≡ row_after_fit shape table row entries (step shape table row entry was)
first-step shape table row entry entries was h =
    ap (λ s. row_after_fit s table row entries (step shape table row entry was)) (kept-one shape entry h)

-- bytes at a column of a row
abbrev put_at : Option (ℕ × Kind) → List ℕ → List Value → List Value
put_at None bytes values = values
put_at (Some column) bytes values = slice_set values column.0 (value_of column.1 bytes)

patched-is : (kinds : List Kind) (offset : ℕ) (bytes : List ℕ) (values : List Value)
    → patched_row kinds offset bytes values ≡ put_at (column_at kinds offset (length bytes)) bytes values
patched-is kinds offset bytes values = by (column_at kinds offset (length bytes)) refl
  where
    by : (found : Option (ℕ × Kind)) → column_at kinds offset (length bytes) ≡ found
        → patched_row kinds offset bytes values ≡ put_at (column_at kinds offset (length bytes)) bytes values
    by None e = rw e refl
    by (Some column) e = rw e refl

-- of two values for one column the later one stays
put_at-twice : (column : Option (ℕ × Kind)) (bytes earlier : List ℕ) (values : List Value)
    → put_at column bytes (put_at column earlier values) ≡ put_at column bytes values
put_at-twice None bytes earlier values = refl
put_at-twice (Some column) bytes earlier values = set-set values column.0 (value_of column.1 earlier) (value_of column.1 bytes)

-- rows that are the same but for a column stay so when another value comes
put_at-keeps : (column other : Option (ℕ × Kind)) (bytes between : List ℕ) (values values' : List Value)
    → put_at column bytes values ≡ put_at column bytes values'
    → put_at column bytes (put_at other between values) ≡ put_at column bytes (put_at other between values')
put_at-keeps None other bytes between values values' h = ap (put_at other between) h
put_at-keeps (Some column) None bytes between values values' h = h
put_at-keeps (Some column) (Some other) bytes between values values' h =
    let last = value_of column.1 bytes in
    let first = value_of other.1 between in
    elim (cases_eq other.0 column.0) [
      | inl same ↦
          rw same (set-set values column.0 first last ∙ h ∙ sym (set-set values' column.0 first last))
      | inr apart ↦
          set_comm values other.0 column.0 first last apart ∙ ap (λ row. slice_set row other.0 first) h
          ∙ sym (set_comm values' other.0 column.0 first last apart)
    ]

-- an entry leaves nothing of one that it supersedes
absorbs : (found : Option (List Kind)) (entry earlier : Entry) (was : Option (List Value)) → supersedes entry earlier ≡ true
    → effect found entry (effect found earlier was) ≡ effect found entry was
absorbs None entry earlier was h = refl
absorbs (Some kinds) (Insert table row bytes) earlier was h = cc
absorbs (Some kinds) (Patch table row offset bytes) (Insert table' row' bytes') was h = cc
absorbs (Some kinds) (Patch table row offset bytes) (Patch table' row' offset' bytes') None h = refl
absorbs (Some kinds) (Patch table row offset bytes) (Patch table' row' offset' bytes') (Some values) h =
    let parts = and_parts (offset == offset') (length bytes == length bytes') h in
    let same : column_at kinds offset' (length bytes') ≡ column_at kinds offset (length bytes) =
    rw (eqb-true offset offset' parts.0, eqb-true (length bytes) (length bytes') parts.1) refl in
    ap Some (patched-is kinds offset bytes (patched_row kinds offset' bytes' values)
    ∙ ap (put_at (column_at kinds offset (length bytes)) bytes)
    (patched-is kinds offset' bytes' values ∙ ap (λ column. put_at column bytes' values) same)
    ∙ put_at-twice (column_at kinds offset (length bytes)) bytes bytes' values
    ∙ sym (patched-is kinds offset bytes values))
absorbs (Some kinds) (Patch table row offset bytes) (Delete table' row') was h = cc
absorbs (Some kinds) (Patch table row offset bytes) (AddColumn table' default) was h = cc
absorbs (Some kinds) (Delete table row) earlier was h = refl
absorbs (Some kinds) (AddColumn table default) earlier was h = cc

-- where two rows are the same once an entry comes, they are so too with any other entry of a row before it
abbrev pub Keeps : Option (List Kind) → Entry → Type 0
Keeps found entry =
    (between : Entry) (was was' : Option (List Value)) → adds_column between ≡ false → effect found entry was ≡ effect found entry was'
    → effect found entry (effect found between was) ≡ effect found entry (effect found between was')

patch-keeps : (kinds : List Kind) (table : ℕ) (row : RowId) (offset : ℕ) (bytes : List ℕ)
    → Keeps (Some kinds) (Patch table row offset bytes)
patch-keeps kinds table row offset bytes (Insert table' row' bytes') was was' of h = by (length bytes' == row_width kinds) was was' h
  where
    by : (wide : Bool) (was was' : Option (List Value))
        → option_map (patched_row kinds offset bytes) was ≡ option_map (patched_row kinds offset bytes) was'
        → option_map (patched_row kinds offset bytes) (cond wide (inserted_row kinds bytes' was) was) ≡ option_map
        (patched_row kinds offset bytes) (cond wide (inserted_row kinds bytes' was') was')
    by false was was' h = h
    by true None None h = refl
    by true None (Some values) h = cc
    by true (Some values) None h = cc
    by true (Some values) (Some values') h = h
patch-keeps kinds table row offset bytes (Patch table' row' offset' bytes') None None of h = refl
patch-keeps kinds table row offset bytes (Patch table' row' offset' bytes') None (Some values) of h = cc
patch-keeps kinds table row offset bytes (Patch table' row' offset' bytes') (Some values) None of h = cc
patch-keeps kinds table row offset bytes (Patch table' row' offset' bytes') (Some values) (Some values') of h =
    let column = column_at kinds offset (length bytes) in
    let other = column_at kinds offset' (length bytes') in
    let same = sym (patched-is kinds offset bytes values) ∙ same_Some _ _ h ∙ patched-is kinds offset bytes values' in
    let as_put =
    λ (vs : List Value). patched-is kinds offset bytes (patched_row kinds offset' bytes' vs)
    ∙ ap (put_at column bytes) (patched-is kinds offset' bytes' vs) in
    ap Some (as_put values ∙ put_at-keeps column other bytes bytes' values values' same ∙ sym (as_put values'))
patch-keeps kinds table row offset bytes (Delete table' row') was was' of h = refl
patch-keeps kinds table row offset bytes (AddColumn table' default) was was' of h = absurd cc

none-keeps : (entry : Entry) → Keeps None entry
none-keeps entry between was was' of h = h

delete-keeps : (kinds : List Kind) (table : ℕ) (row : RowId) → Keeps (Some kinds) (Delete table row)
delete-keeps kinds table row between was was' of h = refl

-- a row after entries and then one more of it, and after those entries without the ones of which that leaves nothing
still : (shape : Shape) (table row : ℕ) (entry : Entry) → Keeps (slice_get shape table) entry
    → (entries : List Entry) (was was' : Option (List Value)) → AreOfRows entries
    → effect (slice_get shape table) entry was ≡ effect (slice_get shape table) entry was'
    → effect (slice_get shape table) entry
    (row_after_fit shape table row (filter (λ earlier. not (supersedes entry earlier)) entries) was) ≡ effect
    (slice_get shape table) entry (row_after_fit shape table row entries was')
still shape table row entry keeps [] was was' of h = h
still shape table row entry keeps (first ∷ entries) was was' of h =
    by (λ was was' h. still shape table row entry keeps entries was was' of.1 h) (supersedes entry first) refl
    ∙ ap (effect (slice_get shape table) entry) (sym (first-step shape table row first entries was' of.0))
  where
    gone : (here : Bool) → is_of table row first ≡ here → supersedes entry first ≡ true
        → effect (slice_get shape table) entry was ≡ effect (slice_get shape table) entry (step shape table row first was')
    gone true e over =
        h ∙ sym (ap (effect (slice_get shape table) entry)
        (step-is shape table row first was' ∙ ap (λ here. cond here (effect (slice_get shape table) first was') was') e)
        ∙ absorbs (slice_get shape table) entry first was' over)
    gone false e over =
        h ∙ sym (ap (effect (slice_get shape table) entry)
        (step-is shape table row first was' ∙ ap (λ here. cond here (effect (slice_get shape table) first was') was') e))

    stepped : (here : Bool) (values : Option (List Value)) → is_of table row first ≡ here
        → step shape table row first values ≡ cond here (effect (slice_get shape table) first values) values
    stepped here values e =
        step-is shape table row first values ∙ ap (λ here. cond here (effect (slice_get shape table) first values) values) e

    both : (here : Bool) → is_of table row first ≡ here
        → effect (slice_get shape table) entry (step shape table row first was) ≡ effect (slice_get shape table) entry
        (step shape table row first was')
    both true e =
        ap (effect (slice_get shape table) entry) (stepped true was e) ∙ keeps first was was' of.0 h
        ∙ ap (effect (slice_get shape table) entry) (sym (stepped true was' e))
    both false e =
        ap (effect (slice_get shape table) entry) (stepped false was e) ∙ h
        ∙ ap (effect (slice_get shape table) entry) (sym (stepped false was' e))

    by : ((was was' : Option (List Value)) → effect (slice_get shape table) entry was ≡ effect (slice_get shape table) entry was'
        → effect (slice_get shape table) entry
        (row_after_fit shape table row (filter (λ earlier. not (supersedes entry earlier)) entries) was) ≡ effect
        (slice_get shape table) entry (row_after_fit shape table row entries was'))
        → (over : Bool) → supersedes entry first ≡ over
        → effect (slice_get shape table) entry
        (row_after_fit shape table row (cond (not over)
        (first ∷ filter (λ earlier. not (supersedes entry earlier)) entries)
        (filter (λ earlier. not (supersedes entry earlier)) entries)) was) ≡ effect
        (slice_get shape table) entry (row_after_fit shape table row entries (step shape table row first was'))
    by others true e = others was (step shape table row first was') (gone (is_of table row first) refl e)
    by others false e =
        ap (effect (slice_get shape table) entry)
        (first-step shape table row first (filter (λ earlier. not (supersedes entry earlier)) entries) was of.0)
        ∙ others (step shape table row first was) (step shape table row first was') (both (is_of table row first) refl)

all-kept : (entries : List Entry) → filter (λ earlier. not false) entries ≡ entries
all-kept [] = refl
all-kept (entry ∷ entries) = ap (λ others. entry ∷ others) (all-kept entries)

still-after : (shape : Shape) (table row : ℕ) (entry : Entry) (entries : List Entry) (was : Option (List Value)) → AreOfRows entries
    → effect (slice_get shape table) entry
    (row_after_fit shape table row (filter (λ earlier. not (supersedes entry earlier)) entries) was) ≡ effect
    (slice_get shape table) entry (row_after_fit shape table row entries was)
still-after shape table row (Insert table' row' bytes) entries was of =
    ap (λ entries. effect (slice_get shape table) (Insert table' row' bytes) (row_after_fit shape table row entries was)) (all-kept entries)
still-after shape table row (Patch table' row' offset bytes) entries was of =
    still shape table row (Patch table' row' offset bytes) (by (slice_get shape table)) entries was was of refl
  where
    by : (found : Option (List Kind)) → Keeps found (Patch table' row' offset bytes)
    by None = none-keeps (Patch table' row' offset bytes)
    by (Some kinds) = patch-keeps kinds table' row' offset bytes
still-after shape table row (AddColumn table' default) entries was of =
    ap (λ entries. effect (slice_get shape table) (AddColumn table' default) (row_after_fit shape table row entries was)) (all-kept entries)
still-after shape table row (Delete table' row') entries was of =
    still shape table row (Delete table' row') (by (slice_get shape table)) entries was was of refl
  where
    by : (found : Option (List Kind)) → Keeps found (Delete table' row')
    by None = none-keeps (Delete table' row')
    by (Some kinds) = delete-keeps kinds table' row'

-- one more entry at the end
pub row_after_fit-push : (shape : Shape) (table row : ℕ) (entries : List Entry) (entry : Entry) (was : Option (List Value))
    → AreOfRows entries
    → row_after_fit shape table row (entries ++ entry ∷ []) was ≡ step shape table row entry (row_after_fit shape table row entries was)
row_after_fit-push shape table row [] entry was of = refl
row_after_fit-push shape table row (first ∷ entries) entry was of =
    first-step shape table row first (entries ++ entry ∷ []) was of.0
    ∙ row_after_fit-push shape table row entries entry (step shape table row first was) of.1
    ∙ ap (step shape table row entry) (sym (first-step shape table row first entries was of.0))

-- entries of rows that are kept are of rows
pub of-filter : (test : Entry → Bool) (entries : List Entry) → AreOfRows entries → AreOfRows (filter test entries)
of-filter test [] of = tt
of-filter test (entry ∷ entries) of = by (of-filter test entries of.1) (test entry)
  where
    by : AreOfRows (filter test entries) → (here : Bool) → AreOfRows (cond here (entry ∷ filter test entries) (filter test entries))
    by others true = (of.0, others)
    by others false = others

-- the entries of which one more of this row leaves nothing may be left out before it
pub superseded : (shape : Shape) (table row : ℕ) (entry : Entry) (entries : List Entry) (was : Option (List Value))
    → AreOfRows entries → is_of table row entry ≡ true
    → row_after_fit shape table row
    (filter (λ earlier. not (supersedes entry earlier)) entries ++ entry ∷ []) was ≡ step shape table row entry
    (row_after_fit shape table row entries was)
superseded shape table row entry entries was of here =
    let others = filter (λ earlier. not (supersedes entry earlier)) entries in
    let made =
    λ (row' : Option (List Value)). step-is shape table row entry row'
    ∙ ap (λ here. cond here (effect (slice_get shape table) entry row') row') here in
    row_after_fit-push shape table row others entry was (of-filter (λ earlier. not (supersedes entry earlier)) entries of)
    ∙ made (row_after_fit shape table row others was)
    ∙ still-after shape table row entry entries was of
    ∙ sym (made (row_after_fit shape table row entries was))

-- an entry of another row leaves this one
pub other_row : (shape : Shape) (table row : ℕ) (entry : Entry) (was : Option (List Value)) → is_of table row entry ≡ false
    → step shape table row entry was ≡ was
other_row shape table row entry was other =
    step-is shape table row entry was ∙ ap (λ here. cond here (effect (slice_get shape table) entry was) was) other
