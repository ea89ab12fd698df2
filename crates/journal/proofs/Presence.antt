-- Rows that are present are those of some tables, before and after an entry; a list of entries is applied up to the first that is
-- not defined.
use Rattle.std.proofs.Common.{◌≡◌, ℕ, ◌+◌, ◌<◌, Bool, true, false, cond, ◌&&◌, ◌==◌, List, [], ◌∷◌, ◌++◌, take, drop, get_or, length}
use Rattle.std.proofs.Common.{zero, suc, slice_get, replicate}
use Rattle.std.proofs.Common.{Result, Ok, Err, None, Some, refl, sym, ap, subst, ◌∙◌, is_ok, arith}
use Rattle.std.specs.Prelude.{Option, not, IsOk, IsSomeAnd}
use Rattle.std.specs.List.{list_any, slice_set, AllByRecursion}
use Rattle.std.specs.Result.{result_unwrap_or}
use Rattle.std.specs.Ordering.{nat_cmp}
use Rattle.std.specs.BTreeMap.{is_at}
use Rattle.std.proofs.lemmas.Bool.{false≢true, and_from, and_parts, eqb-true}
use Rattle.std.proofs.lemmas.Bool.Decides.{nat_tests}
use Rattle.std.proofs.lemmas.List.{take_more, drop_more, take-append-drop}
use Rattle.std.proofs.lemmas.Option.{slice_get_within, get_or_from_slice_get, same_Some}
use Rattle.rows.specs.declared.entry.Entry.{Entry}
use Rattle.rows.specs.declared.entry.Entry.TheVariants.{Insert, Patch, Delete, AddColumn}
use Rattle.rows.specs.declared.faults.EntryFault.TheVariants.{WrongSize}
use Rattle.rows.specs.declared.kind.Kind.{Kind}
use Rattle.rows.specs.declared.row_id.RowId.{RowId}
use Rattle.rows.specs.declared.value.Value.{Value}
use Rattle.rows.specs.Commits.{is_of}
use Rattle.rows.specs.Entries.{table_of, row_of, fitting, fitting_in, addable, has_room, with_kind, shape_after_one}
use Rattle.rows.specs.Laws.{EntryTellsKinds}
use Rattle.rows.specs.ListLaws.{PresenceIsTold}
use Rattle.rows.specs.Presence.{stands_for, left_by, is_there_after_one}
use Rattle.rows.specs.Shape.{Shape, AreColumns}
use Rattle.rows.specs.Tables.{Tables, Refusal, opening, shape_in, is_row_at, is_fit, stands, refusal_of, made, apply_entry, apply_entries}
use Rattle.rows.specs.Tables.{applied, and_then, change_where}
use Rattle.rows.specs.Values.{kind_of}
use Rattle.journal.specs.Inner.Presence.{TableIds, PresenceState, has_id, has_row, IsPresenceOf, IsApplied}

-- ---- identifiers

any-alike : {K : Type 0} (f g : K → Bool) (ks : List K) → ((k : K) → f k ≡ g k) → list_any f ks ≡ list_any g ks
any-alike f g [] h = refl
any-alike f g (k ∷ ks) h = grind (arith, h k, any-alike f g ks h)

is_at-is : (id other : ℕ) → is_at (nat_cmp id) other ≡ (other == id)
is_at-is id other = grind (arith, nat_tests)

is_at-same : (id other : ℕ) → is_at (nat_cmp id) other ≡ (id == other)
is_at-same id other = grind (arith, nat_tests)

-- what the set finds
pub has_id-is : (ids : List ℕ) (id : ℕ) → list_any (is_at (nat_cmp id)) ids ≡ has_id ids id
has_id-is ids id = any-alike (is_at (nat_cmp id)) (λ other. other == id) ids (λ other. is_at-is id other)

-- what it finds of an identifier, and of any other, once that one was put in or taken out
pub has_id-set : (old new : List ℕ) (id : ℕ) (there : Bool)
    → ((key : ℕ) → list_any (is_at (nat_cmp key)) new ≡ cond (is_at (nat_cmp id) key) there (list_any (is_at (nat_cmp key)) old))
    → (r : ℕ) → has_id new r ≡ cond (id == r) there (has_id old r)
has_id-set old new id there h r =
    sym (has_id-is new r)
    ∙ h r
    ∙ ap (λ here. cond here there (list_any (is_at (nat_cmp r)) old)) (is_at-same id r)
    ∙ ap (cond (id == r) there) (has_id-is old r)

-- the rows of all tables, where those of one table were replaced
pub has_row-set : (rows : TableIds) (table row : ℕ) (there : Bool) (ids : List ℕ) → table < length rows
    → ((r : ℕ) → has_id ids r ≡ cond (row == r) there (has_row rows table r))
    → (t r : ℕ) → has_row (slice_set rows table ids) t r ≡ cond ((table == t) && (row == r)) there (has_row rows t r)
has_row-set [] table row there ids within h t r = absurd (omega arith)
has_row-set (first ∷ rows) zero row there ids within h zero r = h r
has_row-set (first ∷ rows) zero row there ids within h (suc t) r =
    ap (λ here. cond (here && (row == r)) there (has_row rows t r)) (zero-suc t)
  where
    zero-suc : (t : ℕ) → false ≡ (zero == suc t)
    zero-suc t = grind (arith, nat_tests)
has_row-set (first ∷ rows) (suc table) row there ids within h zero r =
    ap (λ here. cond (here && (row == r)) there (has_id first r)) (suc-zero table)
  where
    suc-zero : (table : ℕ) → false ≡ (suc table == zero)
    suc-zero table = grind (arith, nat_tests)
has_row-set (first ∷ rows) (suc table) row there ids within h (suc t) r =
    has_row-set rows table row there ids (omega arith) h t r
    ∙ ap (λ here. cond (here && (row == r)) there (has_row rows t r)) (suc-suc table t)
  where
    suc-suc : (table t : ℕ) → (table == t) ≡ (suc table == suc t)
    suc-suc table t = grind (arith, nat_tests)

-- no entry fits a table that is not there
pub none-fits : (entry : Entry) → is_ok (fitting_in None entry) ≡ false
none-fits (Insert table row bytes) = refl
none-fits (Patch table row offset bytes) = refl
none-fits (Delete table row) = refl
none-fits (AddColumn table default) = refl

-- a table whose entry fits is there
pub fits-within : (shape : Shape) (entry : Entry) → is_ok (fitting shape entry) ≡ true → table_of entry < length shape
fits-within shape entry fits = by (slice_get shape (table_of entry)) refl
  where
    by : (found : Option (List Kind)) → slice_get shape (table_of entry) ≡ found → table_of entry < length shape
    by None e = absurd (false≢true (sym (none-fits entry) ∙ sym (ap (λ found. is_ok (fitting_in found entry)) e) ∙ fits))
    by (Some kinds) e = slice_get_within shape (table_of entry) kinds e

-- ---- one entry

-- an entry of one row: of which rows it is, what it needs, and that it leaves the kinds
is_of-is : (entry : Entry) (row : RowId) → row_of entry ≡ Some row → (t r : ℕ) → is_of t r entry ≡ ((table_of entry == t) && (row.0 == r))
is_of-is (Insert table id bytes) row e t r = ap (λ (row : RowId). (table == t) && (row.0 == r)) (same_Some id row e)
is_of-is (Patch table id offset bytes) row e t r = ap (λ (row : RowId). (table == t) && (row.0 == r)) (same_Some id row e)
is_of-is (Delete table id) row e t r = ap (λ (row : RowId). (table == t) && (row.0 == r)) (same_Some id row e)
is_of-is (AddColumn table default) row e t r = absurd cc

stands-is : (tables : Tables) (entry : Entry) (row : RowId) → row_of entry ≡ Some row
    → stands tables entry ≡ stands_for entry (is_row_at tables (table_of entry) row.0)
stands-is tables (Insert table id bytes) row e = ap (λ (row : RowId). not (is_row_at tables table row.0)) (same_Some id row e)
stands-is tables (Patch table id offset bytes) row e = ap (λ (row : RowId). is_row_at tables table row.0) (same_Some id row e)
stands-is tables (Delete table id) row e = ap (λ (row : RowId). is_row_at tables table row.0) (same_Some id row e)
stands-is tables (AddColumn table default) row e = absurd cc

kept-is : (shape : Shape) (entry : Entry) (row : RowId) → row_of entry ≡ Some row → shape_after_one shape entry ≡ shape
kept-is shape (Insert table id bytes) row e = refl
kept-is shape (Patch table id offset bytes) row e = refl
kept-is shape (Delete table id) row e = refl
kept-is shape (AddColumn table default) row e = absurd cc

-- a change is defined where the entry fits and its row stands as it needs it
where-ok : (fits right : Bool) (refusal : Refusal) (after : Tables) → is_ok (change_where fits right refusal after) ≡ (fits && right)
where-ok true true refusal after = refl
where-ok true false refusal after = refl
where-ok false right refusal after = refl

entry-ok : (tables : Tables) (present : PresenceState) (entry : Entry) → IsPresenceOf tables present
    → is_ok (apply_entry tables entry) ≡ (is_ok (fitting present.kinds entry) && stands tables entry)
entry-ok tables present entry is =
    where-ok (is_fit tables entry) (stands tables entry) (refusal_of entry) (made tables entry)
    ∙ ap (λ shape. is_ok (fitting shape entry) && stands tables entry) (sym is.kinds)

-- one that does not fit is not defined
pub unfit-undefined : (tables : Tables) (present : PresenceState) (entry : Entry) → IsPresenceOf tables present
    → is_ok (fitting present.kinds entry) ≡ false → ¬ IsOk (apply_entry tables entry)
unfit-undefined tables present entry is unfit ok =
    false≢true (sym (ap (λ fits. fits && stands tables entry) unfit) ∙ sym (entry-ok tables present entry is) ∙ ok)

-- an entry of one row, by what is present
present-ok : (tables : Tables) (present : PresenceState) (entry : Entry) (row : RowId) → row_of entry ≡ Some row
    → IsPresenceOf tables present → is_ok (apply_entry tables entry) ≡ (is_ok (fitting present.kinds entry)
    && stands_for entry (has_row present.rows (table_of entry) row.0))
present-ok tables present entry row of_row is =
    entry-ok tables present entry is
    ∙ ap (λ right. is_ok (fitting present.kinds entry) && right) (stands-is tables entry row of_row)
    ∙ ap (λ there. is_ok (fitting present.kinds entry) && stands_for entry there) (sym (is.rows (table_of entry) row.0))

-- one whose row does not stand as it needs it is not defined
pub misplaced-undefined : (tables : Tables) (present : PresenceState) (entry : Entry) (row : RowId) → row_of entry ≡ Some row
    → IsPresenceOf tables present → stands_for entry (has_row present.rows (table_of entry) row.0) ≡ false
    → ¬ IsOk (apply_entry tables entry)
misplaced-undefined tables present entry row of_row is misplaced ok =
    false≢true (sym (and-false (is_ok (fitting present.kinds entry)) _ misplaced)
    ∙ sym (present-ok tables present entry row of_row is) ∙ ok)
  where
    and-false : (fits right : Bool) → right ≡ false → (fits && right) ≡ false
    and-false true right e = e
    and-false false right e = refl

tables_of : (change : Result Tables Refusal) → is_ok change ≡ true → (after : Tables) × (change ≡ Ok after)
tables_of (Ok after) ok = (after, refl)
tables_of (Err refusal) ok = absurd cc

-- one entry alone
one-applied : (tables after : Tables) (entry : Entry) → apply_entry tables entry ≡ Ok after → applied tables (entry ∷ []) ≡ after
one-applied tables after entry e = ap (λ (change : Result Tables Refusal). result_unwrap_or change tables) e

one-ok : (tables after : Tables) (entry : Entry) → apply_entry tables entry ≡ Ok after → is_ok (apply_entries tables (entry ∷ [])) ≡ true
one-ok tables after entry e = ap (λ (change : Result Tables Refusal). is_ok (and_then (λ (t : Tables). Ok t) change)) e

-- a row's presence after an entry of one row, by the presence of all rows before it
row-left : (entry : Entry) (row : RowId) → row_of entry ≡ Some row → (there : ℕ → ℕ → Bool) (t r : ℕ)
    → cond ((table_of entry == t) && (row.0 == r)) (left_by entry (there (table_of entry) row.0)) (there t r)
    ≡ is_there_after_one t r entry (there t r)
row-left entry row of_row there t r = by ((table_of entry == t) && (row.0 == r)) refl
  where
    by : (here : Bool) → ((table_of entry == t) && (row.0 == r)) ≡ here
        → cond ((table_of entry == t) && (row.0 == r)) (left_by entry (there (table_of entry) row.0)) (there t r)
        ≡ is_there_after_one t r entry (there t r)
    by true e =
        let parts = and_parts (table_of entry == t) (row.0 == r) e in
        ap (λ here. cond here (left_by entry (there (table_of entry) row.0)) (there t r)) e
        ∙ ap (λ table. left_by entry (there table row.0)) (eqb-true (table_of entry) t parts.0)
        ∙ ap (λ row. left_by entry (there t row)) (eqb-true row.0 r parts.1)
        ∙ sym (ap (λ here. cond here (left_by entry (there t r)) (there t r)) (is_of-is entry row of_row t r ∙ e))
    by false e =
        ap (λ here. cond here (left_by entry (there (table_of entry) row.0)) (there t r)) e
        ∙ sym (ap (λ here. cond here (left_by entry (there t r)) (there t r)) (is_of-is entry row of_row t r ∙ e))

-- an entry that is defined, where the kinds and the rows are then what it makes of them
pub entry-made : EntryTellsKinds → PresenceIsTold → (old new : PresenceState) (entry : Entry)
    → new.kinds ≡ shape_after_one old.kinds entry
    → ((t r : ℕ) → has_row new.rows t r ≡ is_there_after_one t r entry (has_row old.rows t r))
    → (tables : Tables) → IsPresenceOf tables old → is_ok (apply_entry tables entry) ≡ true → IsApplied true (apply_entry tables entry) new
entry-made tells told old new entry kinds rows tables is ok =
    let done = tables_of (apply_entry tables entry) ok in
    let after = done.0 in (
      after,
      done.1,
      record {
        kinds = kinds ∙ ap (λ shape. shape_after_one shape entry) is.kinds ∙ sym (tells tables after entry done.1);
        rows = λ t r.
            rows t r
            ∙ ap (is_there_after_one t r entry) (is.rows t r)
            ∙ sym (told tables (entry ∷ []) t r (one-ok tables after entry done.1))
            ∙ ap (λ (ts : Tables). is_row_at ts t r) (one-applied tables after entry done.1);
      },
    )

-- an entry of one row that is defined, where its row is then as it leaves it
module _ (tells : EntryTellsKinds) (told : PresenceIsTold) (old new : PresenceState) (entry : Entry) (table : ℕ) (row : RowId)
    (there left : Bool)
    (of_table : table ≡ table_of entry) (of_row : row_of entry ≡ Some row) (was : there ≡ has_row old.rows table row.0)
    (leaves : left ≡ left_by entry there) (fits : is_ok (fitting old.kinds entry) ≡ true) (right : stands_for entry there ≡ true) where
  was-there : there ≡ has_row old.rows (table_of entry) row.0
  was-there = was ∙ ap (λ t. has_row old.rows t row.0) of_table

  defined : (is_ok (fitting old.kinds entry) && stands_for entry (has_row old.rows (table_of entry) row.0)) ≡ true
  defined = and_from _ _ fits (ap (stands_for entry) (sym was-there) ∙ right)

  left-is : (t r : ℕ) → cond ((table == t) && (row.0 == r)) left (has_row old.rows t r)
      ≡ is_there_after_one t r entry (has_row old.rows t r)
  left-is t r =
      ap (λ at. cond ((at == t) && (row.0 == r)) left (has_row old.rows t r)) of_table
      ∙ ap (λ here. cond ((table_of entry == t) && (row.0 == r)) here (has_row old.rows t r))
      (leaves ∙ ap (left_by entry) was-there)
      ∙ row-left entry row of_row (has_row old.rows) t r

  pub row-applied : new.kinds ≡ old.kinds
      → ((t r : ℕ) → has_row new.rows t r ≡ cond ((table == t) && (row.0 == r)) left (has_row old.rows t r))
      → (tables : Tables) → IsPresenceOf tables old → IsApplied true (apply_entry tables entry) new
  row-applied kinds rows tables is =
      entry-made tells told old new entry (kinds ∙ sym (kept-is old.kinds entry row of_row)) (λ t r. rows t r ∙ left-is t r) tables is
      (present-ok tables old entry row of_row is ∙ defined)

-- an added column that fits
pub column-applied : EntryTellsKinds → PresenceIsTold → (old new : PresenceState) (table : ℕ) (default : Value)
    → is_ok (fitting old.kinds (AddColumn table default)) ≡ true → new.kinds ≡ with_kind old.kinds table (kind_of default)
    → new.rows ≡ old.rows
    → (tables : Tables) → IsPresenceOf tables old → IsApplied true (apply_entry tables (AddColumn table default)) new
column-applied tells told old new table default fits kinds rows tables is =
    entry-made tells told old new (AddColumn table default)
    (kinds ∙ sym (ap (λ may. cond may (with_kind old.kinds table (kind_of default)) old.kinds) fits))
    (λ t r. ap (λ (rows : TableIds). has_row rows t r) rows ∙ alike (table == t) (has_row old.rows t r)) tables is
    (entry-ok tables old (AddColumn table default) is ∙ ap (λ fits. fits && true) fits)
  where
    alike : (b was : Bool) → was ≡ cond b was was
    alike true was = refl
    alike false was = refl

-- where there is room for a column that fits
pub fits-room : (found : Option (List Kind)) (default : Value) → is_ok (addable found default) ≡ true
    → IsSomeAnd found (λ kinds. has_room kinds (kind_of default) ≡ true)
fits-room None default h = absurd cc
fits-room (Some kinds) default h = by (has_room kinds (kind_of default)) h
  where
    by : (room : Bool) → is_ok {T = Unit {0}} (cond room (Ok tt) (Err WrongSize)) ≡ true → room ≡ true
    by true h = refl
    by false h = absurd cc

-- what holds of kinds that are there
pub some-of : (found : Option (List Kind)) (kinds : List Kind) (P : List Kind → Type 0) → IsSomeAnd found P → found ≡ Some kinds → P kinds
some-of None kinds P h e = absurd cc
some-of (Some other) kinds P h e = subst P (same_Some other kinds e) h

-- the kinds of all tables, where one table's were replaced
pub each-set : (shape : Shape) (table : ℕ) (kinds : List Kind) → AllByRecursion AreColumns shape → AreColumns kinds
    → AllByRecursion AreColumns (slice_set shape table kinds)
each-set [] table kinds each are = tt
each-set (first ∷ shape) zero kinds each are = (are, each.1)
each-set (first ∷ shape) (suc table) kinds each are = (each.0, each-set shape table kinds each.1 are)

pub each-at : (shape : Shape) (table : ℕ) (kinds : List Kind) → AllByRecursion AreColumns shape → slice_get shape table ≡ Some kinds
    → AreColumns kinds
each-at [] table kinds each e = absurd cc
each-at (first ∷ shape) zero kinds each e = subst AreColumns (same_Some first kinds e) each.0
each-at (first ∷ shape) (suc table) kinds each e = each-at shape table kinds each.1 e

-- a row that is as it was
pub row-same : (rows : TableIds) (table row : ℕ) (there left : Bool) → there ≡ has_row rows table row → left ≡ there
    → (t r : ℕ) → has_row rows t r ≡ cond ((table == t) && (row == r)) left (has_row rows t r)
row-same rows table row there left was same t r = by ((table == t) && (row == r)) refl
  where
    by : (here : Bool) → ((table == t) && (row == r)) ≡ here → has_row rows t r ≡ cond here left (has_row rows t r)
    by true e =
        let parts = and_parts (table == t) (row == r) e in
        sym (same ∙ was ∙ ap (λ at. has_row rows at row) (eqb-true table t parts.0) ∙ ap (has_row rows t) (eqb-true row r parts.1))
    by false e = refl

-- ---- a list of entries

behind : (f g : Tables → Result Tables Refusal) (first : Result Tables Refusal) (between : Tables) (last : Result Tables Refusal)
    → ((tables : Tables) → f tables ≡ Ok between → g tables ≡ last) → and_then f first ≡ Ok between → and_then g first ≡ last
behind f g (Ok tables) between last h e = h tables e
behind f g (Err refusal) between last h e = absurd cc

entries-behind : (tables between : Tables) (before entries : List Entry) → apply_entries tables before ≡ Ok between
    → apply_entries tables (before ++ entries) ≡ apply_entries between entries
entries-behind tables between [] entries e =
    let same : tables ≡ between = cc in ap (λ (t : Tables). apply_entries t entries) same
entries-behind tables between (entry ∷ before) entries e =
    behind (λ after. apply_entries after before) (λ after. apply_entries after (before ++ entries)) (apply_entry tables entry) between
    (apply_entries between entries)
    (λ after h. entries-behind after between before entries h) e

-- the entries up to one that is defined
pub one-more : (tables old new : Tables) (entries : List Entry) (i : ℕ) (entry : Entry) → i < length entries
    → entry ≡ get_or entries i entry → apply_entries tables (take i entries) ≡ Ok old → apply_entry old entry ≡ Ok new
    → apply_entries tables (take (i + 1) entries) ≡ Ok new
one-more tables old new entries i entry within is before e =
    ap (apply_entries tables) (take_more entries i entry within ∙ ap (λ (last : Entry). take i entries ++ last ∷ []) (sym is))
    ∙ entries-behind tables old (take i entries) (entry ∷ []) before
    ∙ ap (λ (change : Result Tables Refusal). and_then (λ (t : Tables). Ok t) change) e

refused-first : (change : Result Tables Refusal) (next : Tables → Result Tables Refusal) → ¬ IsOk change → ¬ IsOk (and_then next change)
refused-first (Ok tables) next undefined = absurd (undefined refl)
refused-first (Err refusal) next undefined = undefined

-- a list with an entry that is not defined behind those before it
pub one-refused : (tables old : Tables) (entries : List Entry) (i : ℕ) (entry : Entry) → i < length entries
    → entry ≡ get_or entries i entry → apply_entries tables (take i entries) ≡ Ok old → ¬ IsOk (apply_entry old entry)
    → ¬ IsOk (apply_entries tables entries)
one-refused tables old entries i entry within is before undefined ok =
    let split : take i entries ++ (entry ∷ drop (i + 1) entries) ≡ entries =
    ap (λ (last : Entry). take i entries ++ (last ∷ drop (i + 1) entries)) is
    ∙ ap (λ (more : List Entry). take i entries ++ more) (sym (drop_more entries i entry within)) ∙ take-append-drop i entries in
    let here = entries-behind tables old (take i entries) (entry ∷ drop (i + 1) entries) before in
    refused-first (apply_entry old entry) (λ after. apply_entries after (drop (i + 1) entries)) undefined
    (subst (λ (change : Result Tables Refusal). IsOk change) (ap (apply_entries tables) (sym split) ∙ here) ok)

-- ---- tables without rows

pub opening-kinds : (shape : Shape) → shape_in (opening shape) ≡ shape
opening-kinds [] = refl
opening-kinds (kinds ∷ shape) = ap (λ more. kinds ∷ more) (opening-kinds shape)

pub opening-rows : (shape : Shape) (table row : ℕ) → has_row (replicate (length shape) []) table row ≡ is_row_at (opening shape) table row
opening-rows [] table row = refl
opening-rows (kinds ∷ shape) zero row = refl
opening-rows (kinds ∷ shape) (suc table) row = opening-rows shape table row

-- the kinds of the first tables, with the next one
pub kinds-more : (shape : Shape) (i : ℕ) (kinds : List Kind) → Some kinds ≡ slice_get shape i
    → take (i + 1) shape ≡ take i shape ++ kinds ∷ []
kinds-more shape i kinds there =
    take_more shape i kinds (slice_get_within shape i kinds (sym there))
    ∙ ap (λ kinds. take i shape ++ kinds ∷ []) (get_or_from_slice_get shape i kinds kinds (sym there))
