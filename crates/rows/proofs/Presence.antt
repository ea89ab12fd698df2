-- Which rows are there after entries and commits: each entry turns whether its row is there, and no other.
use Rattle.std.proofs.Common.{◌≡◌, ◌≢◌, ℕ, suc, zero, ◌+◌, ◌<◌, Bool, true, false, cond, not, ◌&&◌, ◌==◌, List, [], ◌∷◌, ◌++◌, length}
use Rattle.std.proofs.Common.{get_or}
use Rattle.std.proofs.Common.{take, Option, None, Some, Result, Ok, Err, slice_get, refl, sym, ap, subst, ◌∙◌, inl, inr, arith}
use Rattle.std.specs.List.{list_any, slice_set}
use Rattle.std.specs.Result.{is_ok, result_unwrap_or}
use Rattle.std.proofs.lemmas.Bool.{false≢true, and_parts, or_parts, eqb-true, eq-eqb, ne_eqb, cases_eq}
use Rattle.std.proofs.lemmas.List.{take_more, length-map}
use Rattle.rows.specs.declared.commit.Commit.{Commit}
use Rattle.rows.specs.declared.entry.Entry.{Entry}
use Rattle.rows.specs.declared.entry.Entry.TheVariants.{Insert, Patch, Delete, AddColumn}
use Rattle.rows.specs.declared.kind.Kind.{Kind}
use Rattle.rows.specs.Shape.{Shape}
use Rattle.rows.specs.declared.value.Value.{Value}
use Rattle.rows.specs.Entries.{table_of, fitting, sized, placed, listed, addable, shape_after_one, shape_after}
use Rattle.rows.specs.Values.{values_of, kind_of}
use Rattle.rows.specs.Tables.{Rows, Table, Tables, Refusal, opening, shape_in, rows_of, kinds_of, is_present, is_row_at}
use Rattle.rows.specs.Tables.{with_column, widened, with_rows, is_fit, stands, refusal_of, made, change_where, apply_entry, apply_entries}
use Rattle.rows.specs.Tables.{applied, and_then}
use Rattle.rows.specs.Commits.{apply_commits, shape_after_commits, is_of}
use Rattle.rows.specs.Presence.{stands_for, left_by, is_there_after_one, is_there_after}
use Rattle.rows.specs.Inner.Presence.{is_there_after_commits, is_there_after_fit}
use Rattle.rows.proofs.Rows.{is_present-with_row, is_present-with_patch, is_present-without_row, is_present-with_column}

-- the rows of a table that was replaced, and of any other
pub rows_of-set_same : (tables : Tables) (table : ℕ) (new : Table) → table < length tables
    → rows_of (slice_set tables table new) table ≡ new.rows
rows_of-set_same [] table new h = absurd (omega arith)
rows_of-set_same (first ∷ tables) zero new h = refl
rows_of-set_same (first ∷ tables) (suc table) new h = rows_of-set_same tables table new (omega arith)

pub rows_of-set_other : (tables : Tables) (table other : ℕ) (new : Table) → other ≢ table
    → rows_of (slice_set tables table new) other ≡ rows_of tables other
rows_of-set_other [] table other new h = refl
rows_of-set_other (first ∷ tables) zero zero new h = absurd (h refl)
rows_of-set_other (first ∷ tables) zero (suc other) new h = refl
rows_of-set_other (first ∷ tables) (suc table) zero new h = refl
rows_of-set_other (first ∷ tables) (suc table) (suc other) new h = rows_of-set_other tables table other new (λ e. h (ap suc e))

-- a table with other rows, and with the kinds that it had
abbrev pub renewed : Tables → ℕ → Rows → Table
renewed tables table rows = record { kinds = kinds_of tables table; rows = rows }

-- other rows leave the kinds of each table's columns
pub shape_in-with_rows : (tables : Tables) (table : ℕ) (rows : Rows) → shape_in (with_rows tables table rows) ≡ shape_in tables
shape_in-with_rows [] table rows = refl
shape_in-with_rows (first ∷ tables) zero rows = refl
shape_in-with_rows (first ∷ tables) (suc table) rows = ap (λ shape. first.kinds ∷ shape) (shape_in-with_rows tables table rows)

-- the kinds once a table was replaced
pub shape_in-set : (tables : Tables) (table : ℕ) (new : Table)
    → shape_in (slice_set tables table new) ≡ slice_set (shape_in tables) table new.kinds
shape_in-set [] table new = refl
shape_in-set (first ∷ tables) zero new = refl
shape_in-set (first ∷ tables) (suc table) new = ap (λ shape. first.kinds ∷ shape) (shape_in-set tables table new)

pub shape_in-opening : (shape : Shape) → shape_in (opening shape) ≡ shape
shape_in-opening [] = refl
shape_in-opening (kinds ∷ shape) = ap (λ shape. kinds ∷ shape) (shape_in-opening shape)

-- whether a row is there
abbrev pub there : Tables → ℕ → ℕ → Bool
there tables table row = is_row_at tables table row

-- at the opening no row is there
pub opening-empty : (shape : Shape) (table row : ℕ) → there (opening shape) table row ≡ false
opening-empty [] table row = refl
opening-empty (kinds ∷ shape) zero row = refl
opening-empty (kinds ∷ shape) (suc table) row = opening-empty shape table row

-- tables whose kinds are made of those before, where each row is there as it is turned
pub record Turns (before after : Tables) (shaped : Shape → Shape) (turned : ℕ → ℕ → Bool → Bool) : Type 0 where
  pub kinds : shape_in after ≡ shaped (shape_in before)
  pub rows : (t r : ℕ) → there after t r ≡ turned t r (there before t r)

Turns-none : (tables : Tables) → Turns tables tables (λ shape. shape) (λ t r was. was)
Turns-none tables = record { kinds = refl; rows = λ t r. refl }

-- one change after another
Turns-both : (before between after : Tables) (first second : Shape → Shape) (f g : ℕ → ℕ → Bool → Bool) → Turns before between first f
    → Turns between after second g → Turns before after (λ shape. second (first shape)) (λ t r was. g t r (f t r was))
Turns-both before between after first second f g x y = record {
  kinds = y.kinds ∙ ap second x.kinds;
  rows = λ t r. y.rows t r ∙ ap (g t r) (x.rows t r);
}

-- whether a row is there once a table was replaced by one that turns one row
there-set : (tables : Tables) (table row : ℕ) (rows : Rows) (left : Bool → Bool) (t r : ℕ) → table < length tables
    → is_present rows r ≡ cond (row == r) (left (there tables table r)) (there tables table r)
    → there (with_rows tables table rows) t r ≡ cond ((table == t) && (row == r)) (left (there tables t r)) (there tables t r)
there-set tables table row rows left t r h turns = elim (cases_eq t table) [
  | inl same ↦ rw same (
      ap (λ rows. is_present rows r) (rows_of-set_same tables table (renewed tables table rows) h)
      ∙ turns
      ∙ ap (λ b. cond (b && (row == r)) (left (there tables table r)) (there tables table r)) (sym (eq-eqb table table refl)))
  | inr other ↦
      ap (λ rows. is_present rows r) (rows_of-set_other tables table t (renewed tables table rows) other)
      ∙ ap (λ b. cond (b && (row == r)) (left (there tables t r)) (there tables t r)) (sym (ne_eqb table t (λ e. other (sym e))))
]

Turns-set : (tables : Tables) (table row : ℕ) (rows : Rows) (left : Bool → Bool) → table < length tables
    → ((r : ℕ) → is_present rows r ≡ cond (row == r) (left (there tables table r)) (there tables table r))
    → Turns tables (with_rows tables table rows) (λ shape. shape) (λ t r was. cond ((table == t) && (row == r)) (left was) was)
Turns-set tables table row rows left h turns = record {
  kinds = shape_in-with_rows tables table rows;
  rows = λ t r. there-set tables table row rows left t r h (turns r);
}

-- an entry that fits is of a table of the shape
listed-within : (shape : Shape) (table : ℕ) → is_ok (listed (slice_get shape table)) ≡ true → table < length shape
listed-within [] table h = cc
listed-within (kinds ∷ shape) zero h = omega arith
listed-within (kinds ∷ shape) (suc table) h = omega (arith, listed-within shape table h)

sized-listed : (found : Option (List Kind)) (size : ℕ) → is_ok (sized found size) ≡ true → is_ok (listed found) ≡ true
sized-listed None size h = h
sized-listed (Some kinds) size h = refl

placed-listed : (found : Option (List Kind)) (offset size : ℕ) → is_ok (placed found offset size) ≡ true → is_ok (listed found) ≡ true
placed-listed None offset size h = h
placed-listed (Some kinds) offset size h = refl

addable-listed : (found : Option (List Kind)) (default : Value) → is_ok (addable found default) ≡ true → is_ok (listed found) ≡ true
addable-listed None default h = h
addable-listed (Some kinds) default h = refl

pub fitting-within : (shape : Shape) (entry : Entry) → is_ok (fitting shape entry) ≡ true → table_of entry < length shape
fitting-within shape (Insert table row bytes) h = listed-within shape table (sized-listed (slice_get shape table) (length bytes) h)
fitting-within shape (Patch table row offset bytes) h =
    listed-within shape table (placed-listed (slice_get shape table) offset (length bytes) h)
fitting-within shape (Delete table row) h = listed-within shape table h
fitting-within shape (AddColumn table default) h = listed-within shape table (addable-listed (slice_get shape table) default h)

-- whether an entry is of the row of this identifier, where that is of its table
abbrev pub is_of_row : ℕ → Entry → Bool
is_of_row r (Insert table row bytes) = row.0 == r
is_of_row r (Patch table row offset bytes) = row.0 == r
is_of_row r (Delete table row) = row.0 == r
is_of_row r (AddColumn table default) = true

and-true : (b : Bool) → b ≡ (b && true)
and-true true = refl
and-true false = refl

pub is_of-is : (t r : ℕ) (entry : Entry) → is_of t r entry ≡ ((table_of entry == t) && is_of_row r entry)
is_of-is t r (Insert table row bytes) = refl
is_of-is t r (Patch table row offset bytes) = refl
is_of-is t r (Delete table row) = refl
is_of-is t r (AddColumn table default) = and-true (table == t)

-- an entry that is of a row is of the row's table
pub of-table : (t r : ℕ) (entry : Entry) → is_of t r entry ≡ true → table_of entry ≡ t
of-table t r entry e =
    eqb-true (table_of entry) t (and_parts (table_of entry == t) (is_of_row r entry) (sym (is_of-is t r entry) ∙ e)).0

same_row : (tables : Tables) (table t row r : ℕ) → table ≡ t → row ≡ r → there tables table row ≡ there tables t r
same_row tables table t row r e f = ap (λ t. there tables t row) e ∙ ap (there tables t) f

pub stands-at : (tables : Tables) (entry : Entry) (t r : ℕ) → is_of t r entry ≡ true
    → stands tables entry ≡ stands_for entry (there tables t r)
stands-at tables (Insert table row bytes) t r e =
    let at = and_parts (table == t) (row.0 == r) e in
    ap not (same_row tables table t row.0 r (eqb-true table t at.0) (eqb-true row.0 r at.1))
stands-at tables (Patch table row offset bytes) t r e =
    let at = and_parts (table == t) (row.0 == r) e in
    same_row tables table t row.0 r (eqb-true table t at.0) (eqb-true row.0 r at.1)
stands-at tables (Delete table row) t r e =
    let at = and_parts (table == t) (row.0 == r) e in
    same_row tables table t row.0 r (eqb-true table t at.0) (eqb-true row.0 r at.1)
stands-at tables (AddColumn table default) t r e = refl

-- what a change needs, and what it makes
pub apply_entry-parts : (tables after : Tables) (entry : Entry) → apply_entry tables entry ≡ Ok after
    → (is_fit tables entry ≡ true) × (stands tables entry ≡ true) × (made tables entry ≡ after)
apply_entry-parts tables after entry h = passed (is_fit tables entry) (stands tables entry) h
  where
    passed : (fits right : Bool) → change_where fits right (refusal_of entry) (made tables entry) ≡ Ok after → (fits ≡ true)
        × (right ≡ true) × (made tables entry ≡ after)
    passed true true h = (refl, refl, cc)
    passed true false h = absurd (cc)
    passed false right h = absurd (cc)

-- an entry that fits is of one of the tables
pub fit-within : (tables : Tables) (entry : Entry) → is_fit tables entry ≡ true → table_of entry < length tables
fit-within tables entry h = omega (arith, fitting-within (shape_in tables) entry h, length-map tables (λ table. table.kinds))

-- a table with one more column
abbrev pub wider : Tables → ℕ → Value → Table
wider tables table default = record {
  kinds = kinds_of tables table ++ kind_of default ∷ [];
  rows = with_column default (rows_of tables table);
}

-- a column that is added leaves which rows are there
there-widened : (tables : Tables) (table : ℕ) (default : Value) (t r : ℕ) → table < length tables
    → there (widened tables table default) t r ≡ cond (table == t) (there tables t r) (there tables t r)
there-widened tables table default t r h = same ∙ alike (table == t) (there tables t r)
  where
    alike : (b was : Bool) → was ≡ cond b was was
    alike true was = refl
    alike false was = refl

    same : there (widened tables table default) t r ≡ there tables t r
    same = elim (cases_eq t table) [
      | inl here ↦ rw here (
          ap (λ rows. is_present rows r) (rows_of-set_same tables table (wider tables table default) h)
          ∙ is_present-with_column default (rows_of tables table) r)
      | inr other ↦ ap (λ rows. is_present rows r) (rows_of-set_other tables table t (wider tables table default) other)
    ]

-- an entry that fits turns its row, or leaves which rows are there
Turns-made : (tables : Tables) (entry : Entry) → is_fit tables entry ≡ true
    → Turns tables (made tables entry) (λ shape. shape_after_one shape entry) (λ t r. is_there_after_one t r entry)
Turns-made tables (Insert table row bytes) h =
    Turns-set tables table row.0 _ (λ was. true) (fit-within tables (Insert table row bytes) h)
    (is_present-with_row (rows_of tables table) row.0 (values_of (kinds_of tables table) bytes))
Turns-made tables (Patch table row offset bytes) h =
    Turns-set tables table row.0 _ (λ was. was) (fit-within tables (Patch table row offset bytes) h)
    (λ r. is_present-with_patch (kinds_of tables table) (rows_of tables table) row.0 offset bytes r
    ∙ alike (row.0 == r) (there tables table r))
  where
    alike : (b was : Bool) → was ≡ cond b was was
    alike true was = refl
    alike false was = refl
Turns-made tables (Delete table row) h =
    Turns-set tables table row.0 _ (λ was. false) (fit-within tables (Delete table row) h)
    (is_present-without_row (rows_of tables table) row.0)
Turns-made tables (AddColumn table default) h = record {
  kinds = rw h (shape_in-set tables table (wider tables table default));
  rows = λ t r. there-widened tables table default t r (fit-within tables (AddColumn table default) h);
}

pub Turns-change : (tables after : Tables) (entry : Entry) → apply_entry tables entry ≡ Ok after
    → Turns tables after (λ shape. shape_after_one shape entry) (λ t r. is_there_after_one t r entry)
Turns-change tables after entry h =
    let parts = apply_entry-parts tables after entry h in
    subst (λ after. Turns tables after (λ shape. shape_after_one shape entry) (λ t r. is_there_after_one t r entry)) parts.2
    (Turns-made tables entry parts.0)

-- what comes after a change that was not refused
pub and_then-parts : (next : Tables → Result Tables Refusal) (first : Result Tables Refusal) (after : Tables)
    → and_then next first ≡ Ok after → (between : Tables) × (first ≡ Ok between) × (next between ≡ Ok after)
and_then-parts next (Ok between) after h = (between, refl, h)
and_then-parts next (Err refusal) after h = cc

pub Turns-changes : (tables after : Tables) (entries : List Entry) → apply_entries tables entries ≡ Ok after
    → Turns tables after (λ shape. shape_after shape entries) (λ t r. is_there_after t r entries)
Turns-changes tables after [] h =
    let e : tables ≡ after = cc in
    subst (λ after. Turns tables after (λ shape. shape_after shape []) (λ t r. is_there_after t r [])) e (Turns-none tables)
Turns-changes tables after (entry ∷ entries) h =
    let parts = and_then-parts _ (apply_entry tables entry) after h in
    let first = Turns-change tables parts.0 entry parts.1 in
    let others = Turns-changes parts.0 after entries parts.2 in
    Turns-both tables parts.0 after (λ shape. shape_after_one shape entry) (λ shape. shape_after shape entries)
    (λ t r. is_there_after_one t r entry) (λ t r. is_there_after t r entries) first others

pub Turns-commits : (tables after : Tables) (commits : List Commit) → apply_commits tables commits ≡ Ok after
    → Turns tables after (λ shape. shape_after_commits shape commits) (λ t r. is_there_after_commits t r commits)
Turns-commits tables after [] h =
    let e : tables ≡ after = cc in
    subst (λ after. Turns tables after (λ shape. shape_after_commits shape []) (λ t r. is_there_after_commits t r [])) e (Turns-none tables)
Turns-commits tables after (commit ∷ commits) h =
    let parts = and_then-parts _ (apply_entries tables commit.entries) after h in
    let first = Turns-changes tables parts.0 commit.entries parts.1 in
    let others = Turns-commits parts.0 after commits parts.2 in
    Turns-both tables parts.0 after (λ shape. shape_after shape commit.entries) (λ shape. shape_after_commits shape commits)
    (λ t r. is_there_after t r commit.entries) (λ t r. is_there_after_commits t r commits) first others

-- where a row does not stand as the entry needs it, the entry would leave it as it is
left_by-refused : (entry : Entry) (was : Bool) → stands_for entry was ≡ false → left_by entry was ≡ was
left_by-refused (Insert table row bytes) true h = refl
left_by-refused (Insert table row bytes) false h = absurd (false≢true (sym h))
left_by-refused (Patch table row offset bytes) was h = refl
left_by-refused (Delete table row) true h = absurd (false≢true (sym h))
left_by-refused (Delete table row) false h = refl
left_by-refused (AddColumn table default) was h = refl

there-refused : (tables : Tables) (entry : Entry) (t r : ℕ) → stands tables entry ≡ false
    → there tables t r ≡ is_there_after_one t r entry (there tables t r)
there-refused tables entry t r h = by (is_of t r entry) refl
  where
    by : (here : Bool) → is_of t r entry ≡ here → there tables t r ≡ cond here (left_by entry (there tables t r)) (there tables t r)
    by false e = refl
    by true e = sym (left_by-refused entry (there tables t r) (sym (stands-at tables entry t r e) ∙ h))

-- an entry that does not fit leaves the kinds, and so does one whose row does not stand as it needs it
pub shape-unfit : (shape : Shape) (entry : Entry) → is_ok (fitting shape entry) ≡ false → shape_after_one shape entry ≡ shape
shape-unfit shape (Insert table row bytes) h = refl
shape-unfit shape (Patch table row offset bytes) h = refl
shape-unfit shape (Delete table row) h = refl
shape-unfit shape (AddColumn table default) h = rw h refl

pub shape-refused : (shape : Shape) (tables : Tables) (entry : Entry) → stands tables entry ≡ false → shape_after_one shape entry ≡ shape
shape-refused shape tables (Insert table row bytes) h = refl
shape-refused shape tables (Patch table row offset bytes) h = refl
shape-refused shape tables (Delete table row) h = refl
shape-refused shape tables (AddColumn table default) h = absurd (false≢true (sym h))

-- the tables after an entry, which stay where it is refused
abbrev pub step : Tables → Entry → Tables
step tables entry = result_unwrap_or (apply_entry tables entry) tables

pub Turns-step : (tables : Tables) (entry : Entry)
    → Turns tables (step tables entry) (λ shape. shape_after_one shape entry)
    (λ t r was. cond (is_fit tables entry) (is_there_after_one t r entry was) was)
Turns-step tables entry = by (is_fit tables entry) (stands tables entry) refl refl
  where
    by : (fits right : Bool) → is_fit tables entry ≡ fits → stands tables entry ≡ right
        → Turns tables (result_unwrap_or (change_where fits right (refusal_of entry) (made tables entry)) tables)
        (λ shape. shape_after_one shape entry) (λ t r was. cond fits (is_there_after_one t r entry was) was)
    by true true e f = Turns-made tables entry e
    by true false e f =
        record { kinds = sym (shape-refused (shape_in tables) tables entry f); rows = λ t r. there-refused tables entry t r f }
    by false right e f = record { kinds = sym (shape-unfit (shape_in tables) entry e); rows = λ t r. refl }

pub Turns-applied : (tables : Tables) (entries : List Entry)
    → Turns tables (applied tables entries) (λ shape. shape_after shape entries) (λ t r. is_there_after_fit (shape_in tables) t r entries)
Turns-applied tables [] = Turns-none tables
Turns-applied tables (entry ∷ entries) =
    let first = Turns-step tables entry in
    let others =
    subst (λ shape. Turns (step tables entry) (applied (step tables entry) entries) (λ shape. shape_after shape entries)
    (λ t r. is_there_after_fit shape t r entries)) first.kinds (Turns-applied (step tables entry) entries) in
    Turns-both tables (step tables entry) (applied tables (entry ∷ entries)) (λ shape. shape_after_one shape entry)
    (λ shape. shape_after shape entries) (λ t r was. cond (is_fit tables entry) (is_there_after_one t r entry was) was)
    (λ t r. is_there_after_fit (shape_after_one (shape_in tables) entry) t r entries) first others

-- one more entry at the end, or one more commit
pub is_there_after-push : (table row : ℕ) (entries : List Entry) (entry : Entry) (was : Bool)
    → is_there_after table row (entries ++ entry ∷ []) was ≡ is_there_after_one table row entry (is_there_after table row entries was)
is_there_after-push table row [] entry was = refl
is_there_after-push table row (first ∷ entries) entry was =
    is_there_after-push table row entries entry (is_there_after_one table row first was)

pub is_there_after_commits-push : (table row : ℕ) (commits : List Commit) (commit : Commit) (was : Bool)
    → is_there_after_commits table row (commits ++ commit ∷ []) was ≡ is_there_after table row commit.entries
    (is_there_after_commits table row commits was)
is_there_after_commits-push table row [] commit was = refl
is_there_after_commits-push table row (first ∷ commits) commit was =
    is_there_after_commits-push table row commits commit (is_there_after table row first.entries was)

pub is_there_after_fit-push : (shape : Shape) (table row : ℕ) (entries : List Entry) (entry : Entry) (was : Bool)
    → is_there_after_fit shape table row (entries ++ entry ∷ []) was ≡ cond (is_ok (fitting (shape_after shape entries) entry))
    (is_there_after_one table row entry (is_there_after_fit shape table row entries was))
    (is_there_after_fit shape table row entries was)
is_there_after_fit-push shape table row [] entry was = refl
is_there_after_fit-push shape table row (first ∷ entries) entry was =
    is_there_after_fit-push (shape_after_one shape first) table row entries entry
    (cond (is_ok (fitting shape first)) (is_there_after_one table row first was) was)

-- a walk over the entries, or over the commits, one step on
pub is_there_after-more : (table row : ℕ) (entries : List Entry) (i : ℕ) (entry : Entry) (was : Bool) → i < length entries
    → entry ≡ get_or entries i entry
    → is_there_after table row (take (i + 1) entries) was ≡ is_there_after_one table row entry
    (is_there_after table row (take i entries) was)
is_there_after-more table row entries i entry was h e =
    ap (λ entries. is_there_after table row entries was) (take_more entries i entry h ∙ ap (λ x. take i entries ++ x ∷ []) (sym e))
    ∙ is_there_after-push table row (take i entries) entry was

pub is_there_after_commits-more : (table row : ℕ) (commits : List Commit) (i : ℕ) (commit : Commit) (was : Bool) → i < length commits
    → commit ≡ get_or commits i commit
    → is_there_after_commits table row (take (i + 1) commits) was ≡ is_there_after table row commit.entries
    (is_there_after_commits table row (take i commits) was)
is_there_after_commits-more table row commits i commit was h e =
    ap (λ commits. is_there_after_commits table row commits was) (take_more commits i commit h ∙ ap (λ x. take i commits ++ x ∷ []) (sym e))
    ∙ is_there_after_commits-push table row (take i commits) commit was

pub is_there_after_fit-more : (shape : Shape) (table row : ℕ) (entries : List Entry) (i : ℕ) (entry : Entry) (was : Bool)
    → i < length entries → entry ≡ get_or entries i entry
    → is_there_after_fit shape table row (take (i + 1) entries) was
    ≡ cond (is_ok (fitting (shape_after shape (take i entries)) entry))
    (is_there_after_one table row entry (is_there_after_fit shape table row (take i entries) was))
    (is_there_after_fit shape table row (take i entries) was)
is_there_after_fit-more shape table row entries i entry was h e =
    ap (λ entries. is_there_after_fit shape table row entries was)
    (take_more entries i entry h ∙ ap (λ x. take i entries ++ x ∷ []) (sym e))
    ∙ is_there_after_fit-push shape table row (take i entries) entry was

-- whether one of the entries is of that row
abbrev pub named : List Entry → ℕ → ℕ → Bool
named entries table row = list_any (is_of table row) entries

-- whether an entry of one of the commits is of that row
abbrev pub written : List Commit → ℕ → ℕ → Bool
written commits table row = list_any (λ commit. named commit.entries table row) commits

-- entries that are not of a row leave it as it was, and so do commits
pub unnamed : (table row : ℕ) (entries : List Entry) (was : Bool) → named entries table row ≡ false
    → is_there_after table row entries was ≡ was
unnamed table row [] was h = refl
unnamed table row (entry ∷ entries) was h =
    let parts = or_parts (is_of table row entry) (named entries table row) h in
    ap (λ here. is_there_after table row entries (cond here (left_by entry was) was)) parts.0 ∙ unnamed table row entries was parts.1

pub unwritten : (table row : ℕ) (commits : List Commit) (was : Bool) → written commits table row ≡ false
    → is_there_after_commits table row commits was ≡ was
unwritten table row [] was h = refl
unwritten table row (commit ∷ commits) was h =
    let parts = or_parts (named commit.entries table row) (written commits table row) h in
    ap (is_there_after_commits table row commits) (unnamed table row commit.entries was parts.0) ∙ unwritten table row commits was parts.1
