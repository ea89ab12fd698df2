-- Each row's values after entries and commits: an entry changes the values of its row, and of no other.
use Rattle.std.proofs.Common.{◌≡◌, ℕ, suc, zero, ◌<◌, Bool, true, false, cond, not, ◌&&◌, ◌==◌, List, [], ◌∷◌, ◌++◌, length}
use Rattle.std.proofs.Common.{take, Option, None, Some, Ok, refl, sym, ap, subst, ◌∙◌, inl, inr, arith}
use Rattle.std.specs.List.{filter}
use Rattle.std.specs.Map.{lookup, set_value}
use Rattle.std.specs.Option.{is_some, option_map}
use Rattle.std.specs.Ordering.{nat_cmp}
use Rattle.std.specs.BTreeMap.{is_at, insert_entry}
use Rattle.std.specs.Result.{result_unwrap_or}
use Rattle.std.proofs.lemmas.Bool.{eq-eqb, ne_eqb, cases_eq}
use Rattle.std.proofs.lemmas.Bool.Decides.{nat_tests}
use Rattle.rows.specs.declared.commit.Commit.{Commit}
use Rattle.rows.specs.declared.entry.Entry.{Entry}
use Rattle.rows.specs.declared.entry.Entry.TheVariants.{Insert, Patch, Delete, AddColumn}
use Rattle.rows.specs.declared.kind.Kind.{Kind}
use Rattle.rows.specs.declared.value.Value.{Value}
use Rattle.rows.specs.Shape.{Shape, kinds_in}
use Rattle.rows.specs.Entries.{shape_after_one, shape_after}
use Rattle.rows.specs.Values.{values_of}
use Rattle.rows.specs.Tables.{Rows, Tables, opening, shape_in, rows_of, kinds_of, row_at, is_present}
use Rattle.rows.specs.Tables.{is_row_at, with_row, with_patch, without_row, with_column, widened}
use Rattle.rows.specs.Tables.{patched_row, with_rows, is_fit, stands, refusal_of, made, change_where, apply_entry, apply_entries, applied}
use Rattle.rows.specs.Commits.{apply_commits, tables_after, shape_after_commits, is_of}
use Rattle.rows.specs.ListLaws.{RowsAreLeft, RowsAreSeen}
use Rattle.rows.specs.Presence.{stands_for}
use Rattle.rows.specs.RowAfter.{inserted_row, row_after_one, row_after_entry, row_after, row_after_commits, row_after_fit}
use Rattle.rows.proofs.Presence.{rows_of-set_same, rows_of-set_other, renewed, shape_in-with_rows, shape_in-opening, shape_in-set, wider}
use Rattle.rows.proofs.Presence.{fit-within, shape-unfit, shape-refused, stands-at, step, apply_entry-parts, and_then-parts}
use Rattle.rows.proofs.TableLaws.{from_is_ok, apply_commits-split}

-- a look-up after an insert: the new key has its value, and any other as before
pub lookup-insert_entry : {X : Type 0} (q k : ℕ) (v : X) (es : List (ℕ × X))
    → lookup (is_at (nat_cmp q)) (insert_entry nat_cmp es k v) ≡ cond (k == q) (Some v) (lookup (is_at (nat_cmp q)) es)
lookup-insert_entry q k v [] = grind (arith, nat_tests)
lookup-insert_entry q k v (e ∷ es) = grind (arith, nat_tests, lookup-insert_entry q k v es)

-- a look-up after a new value of a key that is there
pub lookup-set_value : {X : Type 0} (q k : ℕ) (v w : X) (es : List (ℕ × X)) → lookup (is_at (nat_cmp k)) es ≡ Some v
    → lookup (is_at (nat_cmp q)) (set_value (is_at (nat_cmp k)) es w) ≡ cond (k == q) (Some w) (lookup (is_at (nat_cmp q)) es)
lookup-set_value q k v w [] h = cc
lookup-set_value q k v w (e ∷ es) h = elim (cases_eq e.0 k) [
  | inl same ↦ grind (arith, nat_tests)
  | inr other ↦ grind (arith, nat_tests, lookup-set_value q k v w es)
]

-- a look-up after a key was taken out: that key is not found, and any other as before
lookup-filter : {X : Type 0} (q k : ℕ) (es : List (ℕ × X))
    → lookup (is_at (nat_cmp q)) (filter (λ e. not (e.0 == k)) es) ≡ cond (k == q) None (lookup (is_at (nat_cmp q)) es)
lookup-filter q k [] = grind (arith, nat_tests)
lookup-filter q k (e ∷ es) = grind (arith, nat_tests, lookup-filter q k es)

-- a row of a table once one was put in, changed or taken out
row_at-with_row : (kinds : List Kind) (rows : Rows) (row : ℕ) (bytes : List ℕ) (other : ℕ) → is_present rows row ≡ false
    → row_at (with_row rows row (values_of kinds bytes)) other ≡ cond (row == other) (inserted_row kinds bytes (row_at rows other))
    (row_at rows other)
row_at-with_row kinds rows row bytes other absent = lookup-insert_entry other row (values_of kinds bytes) rows ∙ elim (cases_eq row other) [
  | inl same ↦ ap (cond (row == other) (Some (values_of kinds bytes))) refl
      ∙ ap (λ was. cond (row == other) was (row_at rows other))
      (sym (ap (inserted_row kinds bytes) (missing (row_at rows other) (ap (is_present rows) (sym same) ∙ absent))))
  | inr other_row ↦ rw (ne_eqb row other other_row) refl
]
  where
    missing : (found : Option (List Value)) → is_some found ≡ false → found ≡ None
    missing None h = refl
    missing (Some values) h = cc

row_at-with_patch : (kinds : List Kind) (rows : Rows) (row offset : ℕ) (bytes : List ℕ) (other : ℕ)
    → row_at (with_patch kinds rows row offset bytes) other ≡ cond (row == other)
    (option_map (patched_row kinds offset bytes) (row_at rows other)) (row_at rows other)
row_at-with_patch kinds rows row offset bytes other = by (row_at rows row) refl
  where
    by : (found : Option (List Value)) → row_at rows row ≡ found
        → row_at (with_patch kinds rows row offset bytes) other ≡ cond (row == other)
        (option_map (patched_row kinds offset bytes) (row_at rows other)) (row_at rows other)
    by None e = rw e (elim (cases_eq row other) [
      | inl same ↦ grind (arith, nat_tests)
      | inr apart ↦ grind (arith, nat_tests)
    ])
    by (Some values) e =
        rw e (lookup-set_value other row values (patched_row kinds offset bytes values) rows e ∙ elim (cases_eq row other) [
          | inl same ↦ grind (arith, nat_tests)
          | inr apart ↦ grind (arith, nat_tests)
        ])

row_at-without_row : (rows : Rows) (row other : ℕ) → row_at (without_row rows row) other ≡ cond (row == other) None (row_at rows other)
row_at-without_row rows row other = lookup-filter other row rows

-- a row once a column was added
row_at-with_column : (default : Value) (rows : Rows) (other : ℕ)
    → row_at (with_column default rows) other ≡ option_map (λ values. values ++ default ∷ []) (row_at rows other)
row_at-with_column default [] other = refl
row_at-with_column default (first ∷ rows) other = grind (arith, nat_tests, row_at-with_column default rows other)

-- a row's values in tables
abbrev pub row_in : Tables → ℕ → ℕ → Option (List Value)
row_in tables table row = row_at (rows_of tables table) row

-- at the opening no row is there
pub opening-none : (shape : Shape) (table row : ℕ) → row_in (opening shape) table row ≡ None
opening-none [] table row = refl
opening-none (kinds ∷ shape) zero row = refl
opening-none (kinds ∷ shape) (suc table) row = opening-none shape table row

-- tables whose kinds are made of those before, where each row has the values that are left of those it had
pub record Leaves (before after : Tables) (shaped : Shape → Shape) (left : ℕ → ℕ → Option (List Value) → Option (List Value))
    : Type 0 where
  pub kinds : shape_in after ≡ shaped (shape_in before)
  pub rows : (t r : ℕ) → row_in after t r ≡ left t r (row_in before t r)

Leaves-none : (tables : Tables) → Leaves tables tables (λ shape. shape) (λ t r was. was)
Leaves-none tables = record { kinds = refl; rows = λ t r. refl }

-- one change after another
Leaves-both : (before between after : Tables) (first second : Shape → Shape) (f g : ℕ → ℕ → Option (List Value) → Option (List Value))
    → Leaves before between first f → Leaves between after second g
    → Leaves before after (λ shape. second (first shape)) (λ t r was. g t r (f t r was))
Leaves-both before between after first second f g x y = record {
  kinds = y.kinds ∙ ap second x.kinds;
  rows = λ t r. y.rows t r ∙ ap (g t r) (x.rows t r);
}

-- a row's values once a table was replaced by one that changes one row
row_in-set : (tables : Tables) (table row : ℕ) (rows : Rows) (left : ℕ → Option (List Value) → Option (List Value)) (t r : ℕ)
    → table < length tables
    → row_at rows r ≡ cond (row == r) (left table (row_in tables table r)) (row_in tables table r)
    → row_in (with_rows tables table rows) t r ≡ cond ((table == t) && (row == r)) (left t (row_in tables t r)) (row_in tables t r)
row_in-set tables table row rows left t r h made = elim (cases_eq t table) [
  | inl same ↦ rw same (
      ap (λ rows. row_at rows r) (rows_of-set_same tables table (renewed tables table rows) h)
      ∙ made
      ∙ ap (λ b. cond (b && (row == r)) (left table (row_in tables table r)) (row_in tables table r)) (sym (eq-eqb table table refl)))
  | inr other ↦
      ap (λ rows. row_at rows r) (rows_of-set_other tables table t (renewed tables table rows) other)
      ∙ ap (λ b. cond (b && (row == r)) (left t (row_in tables t r)) (row_in tables t r)) (sym (ne_eqb table t (λ e. other (sym e))))
]

Leaves-set : (tables : Tables) (table row : ℕ) (rows : Rows) (left : ℕ → Option (List Value) → Option (List Value)) → table < length tables
    → ((r : ℕ) → row_at rows r ≡ cond (row == r) (left table (row_in tables table r)) (row_in tables table r))
    → Leaves tables (with_rows tables table rows) (λ shape. shape) (λ t r was. cond ((table == t) && (row == r)) (left t was) was)
Leaves-set tables table row rows left h made = record {
  kinds = shape_in-with_rows tables table rows;
  rows = λ t r. row_in-set tables table row rows left t r h (made r);
}

-- a row's values once a column was added to a table
row_in-widened : (tables : Tables) (table : ℕ) (default : Value) (t r : ℕ) → table < length tables
    → row_in (widened tables table default) t r
    ≡ cond (table == t) (option_map (λ values. values ++ default ∷ []) (row_in tables t r)) (row_in tables t r)
row_in-widened tables table default t r h = elim (cases_eq t table) [
  | inl same ↦ rw same (
      ap (λ rows. row_at rows r) (rows_of-set_same tables table (wider tables table default) h)
      ∙ row_at-with_column default (rows_of tables table) r
      ∙ ap (λ b. cond b (option_map (λ values. values ++ default ∷ []) (row_in tables table r)) (row_in tables table r))
      (sym (eq-eqb table table refl)))
  | inr other ↦
      ap (λ rows. row_at rows r) (rows_of-set_other tables table t (wider tables table default) other)
      ∙ ap (λ b. cond b (option_map (λ values. values ++ default ∷ []) (row_in tables t r)) (row_in tables t r))
      (sym (ne_eqb table t (λ e. other (sym e))))
]

-- an entry that fits, and whose row stands as it needs it, changes its row, or every row of its table
Leaves-made : (tables : Tables) (entry : Entry) → is_fit tables entry ≡ true → stands tables entry ≡ true
    → Leaves tables (made tables entry) (λ shape. shape_after_one shape entry) (λ t r. row_after_entry (shape_in tables) t r entry)
Leaves-made tables (Insert table row bytes) h right =
    Leaves-set tables table row.0 _ (λ t. inserted_row (kinds_of tables t) bytes) (fit-within tables (Insert table row bytes) h)
    (λ r. row_at-with_row (kinds_of tables table) (rows_of tables table) row.0 bytes r (negated (is_row_at tables table row.0) right))
  where
    negated : (b : Bool) → not b ≡ true → b ≡ false
    negated true e = sym e
    negated false e = refl
Leaves-made tables (Patch table row offset bytes) h right =
    Leaves-set tables table row.0 _ (λ t. option_map (patched_row (kinds_of tables t) offset bytes))
    (fit-within tables (Patch table row offset bytes) h)
    (row_at-with_patch (kinds_of tables table) (rows_of tables table) row.0 offset bytes)
Leaves-made tables (Delete table row) h right =
    Leaves-set tables table row.0 _ (λ t was. None) (fit-within tables (Delete table row) h)
    (row_at-without_row (rows_of tables table) row.0)
Leaves-made tables (AddColumn table default) h right = record {
  kinds = rw h (shape_in-set tables table (wider tables table default));
  rows = λ t r. row_in-widened tables table default t r (fit-within tables (AddColumn table default) h);
}

pub Leaves-change : (tables after : Tables) (entry : Entry) → apply_entry tables entry ≡ Ok after
    → Leaves tables after (λ shape. shape_after_one shape entry) (λ t r. row_after_entry (shape_in tables) t r entry)
Leaves-change tables after entry h =
    let parts = apply_entry-parts tables after entry h in
    subst (λ after. Leaves tables after (λ shape. shape_after_one shape entry) (λ t r. row_after_entry (shape_in tables) t r entry))
    parts.2 (Leaves-made tables entry parts.0 parts.1)

pub Leaves-changes : (tables after : Tables) (entries : List Entry) → apply_entries tables entries ≡ Ok after
    → Leaves tables after (λ shape. shape_after shape entries) (λ t r. row_after (shape_in tables) t r entries)
Leaves-changes tables after [] h =
    let e : tables ≡ after = cc in
    subst (λ after. Leaves tables after (λ shape. shape_after shape []) (λ t r. row_after (shape_in tables) t r [])) e (Leaves-none tables)
Leaves-changes tables after (entry ∷ entries) h =
    let parts = and_then-parts _ (apply_entry tables entry) after h in
    let first = Leaves-change tables parts.0 entry parts.1 in
    let others =
    subst (λ shape. Leaves parts.0 after (λ shape. shape_after shape entries) (λ t r. row_after shape t r entries)) first.kinds
    (Leaves-changes parts.0 after entries parts.2) in
    Leaves-both tables parts.0 after (λ shape. shape_after_one shape entry) (λ shape. shape_after shape entries)
    (λ t r. row_after_entry (shape_in tables) t r entry)
    (λ t r. row_after (shape_after_one (shape_in tables) entry) t r entries) first others

pub Leaves-commits : (tables after : Tables) (commits : List Commit) → apply_commits tables commits ≡ Ok after
    → Leaves tables after (λ shape. shape_after_commits shape commits) (λ t r. row_after_commits (shape_in tables) t r commits)
Leaves-commits tables after [] h =
    let e : tables ≡ after = cc in
    subst (λ after. Leaves tables after (λ shape. shape_after_commits shape []) (λ t r. row_after_commits (shape_in tables) t r []))
    e (Leaves-none tables)
Leaves-commits tables after (commit ∷ commits) h =
    let parts = and_then-parts _ (apply_entries tables commit.entries) after h in
    let first = Leaves-changes tables parts.0 commit.entries parts.1 in
    let others =
    subst (λ shape. Leaves parts.0 after (λ shape. shape_after_commits shape commits) (λ t r. row_after_commits shape t r commits))
    first.kinds (Leaves-commits parts.0 after commits parts.2) in
    Leaves-both tables parts.0 after (λ shape. shape_after shape commit.entries) (λ shape. shape_after_commits shape commits)
    (λ t r. row_after (shape_in tables) t r commit.entries)
    (λ t r. row_after_commits (shape_after (shape_in tables) commit.entries) t r commits) first others

-- where a row does not stand as the entry needs it, the entry would leave its values as they are
row_after_one-refused : (kinds : List Kind) (entry : Entry) (was : Option (List Value)) → stands_for entry (is_some was) ≡ false
    → row_after_one kinds entry was ≡ was
row_after_one-refused kinds (Insert table row bytes) None h = cc
row_after_one-refused kinds (Insert table row bytes) (Some values) h = refl
row_after_one-refused kinds (Patch table row offset bytes) None h = refl
row_after_one-refused kinds (Patch table row offset bytes) (Some values) h = cc
row_after_one-refused kinds (Delete table row) None h = refl
row_after_one-refused kinds (Delete table row) (Some values) h = cc
row_after_one-refused kinds (AddColumn table default) was h = cc

row_in-refused : (shape : Shape) (tables : Tables) (entry : Entry) (t r : ℕ) → stands tables entry ≡ false
    → row_in tables t r ≡ row_after_entry shape t r entry (row_in tables t r)
row_in-refused shape tables entry t r h = by (is_of t r entry) refl
  where
    by : (here : Bool) → is_of t r entry ≡ here
        → row_in tables t r ≡ cond here (row_after_one (kinds_in shape t) entry (row_in tables t r)) (row_in tables t r)
    by false e = refl
    by true e = sym (row_after_one-refused (kinds_in shape t) entry (row_in tables t r) (sym (stands-at tables entry t r e) ∙ h))

-- the tables after an entry, which stay where it is refused
Leaves-step : (tables : Tables) (entry : Entry)
    → Leaves tables (step tables entry) (λ shape. shape_after_one shape entry)
    (λ t r was. cond (is_fit tables entry) (row_after_entry (shape_in tables) t r entry was) was)
Leaves-step tables entry = by (is_fit tables entry) (stands tables entry) refl refl
  where
    by : (fits right : Bool) → is_fit tables entry ≡ fits → stands tables entry ≡ right
        → Leaves tables (result_unwrap_or (change_where fits right (refusal_of entry) (made tables entry)) tables)
        (λ shape. shape_after_one shape entry) (λ t r was. cond fits (row_after_entry (shape_in tables) t r entry was) was)
    by true true e f = Leaves-made tables entry e f
    by true false e f = record {
      kinds = sym (shape-refused (shape_in tables) tables entry f);
      rows = λ t r. row_in-refused (shape_in tables) tables entry t r f;
    }
    by false right e f = record { kinds = sym (shape-unfit (shape_in tables) entry e); rows = λ t r. refl }

pub Leaves-applied : (tables : Tables) (entries : List Entry)
    → Leaves tables (applied tables entries) (λ shape. shape_after shape entries) (λ t r. row_after_fit (shape_in tables) t r entries)
Leaves-applied tables [] = Leaves-none tables
Leaves-applied tables (entry ∷ entries) =
    let first = Leaves-step tables entry in
    let others =
    subst (λ shape. Leaves (step tables entry) (applied (step tables entry) entries) (λ shape. shape_after shape entries)
    (λ t r. row_after_fit shape t r entries)) first.kinds (Leaves-applied (step tables entry) entries) in
    Leaves-both tables (step tables entry) (applied tables (entry ∷ entries)) (λ shape. shape_after_one shape entry)
    (λ shape. shape_after shape entries) (λ t r was. cond (is_fit tables entry) (row_after_entry (shape_in tables) t r entry was) was)
    (λ t r. row_after_fit (shape_after_one (shape_in tables) entry) t r entries) first others

-- a row at a version is what the commits up to it leave of it
pub row-at : RowsAreLeft
row-at shape commits version table row h =
    let all = from_is_ok _ h in
    let split = apply_commits-split shape commits version all.0 all.1 in
    let leaves = Leaves-commits (opening shape) (tables_after shape commits version) (take version commits) split.0 in
    leaves.rows table row
    ∙ ap (λ s. row_after_commits s table row (take version commits) (row_in (opening shape) table row)) (shape_in-opening shape)
    ∙ ap (row_after_commits shape table row (take version commits)) (opening-none shape table row)

-- a row that a transaction sees: that at the version, as its own entries that fit change it
pub row-seen : RowsAreSeen
row-seen shape commits version entries table row =
    (Leaves-applied (tables_after shape commits version) entries).rows table row
