-- Of which row an entry is; what a map of rows finds, and what it finds once one row's entry was replaced.
use Rattle.std.proofs.Common.{◌≡◌, ℕ, Bool, true, false, cond, ◌&&◌, ◌==◌, List, [], ◌∷◌, None, Some, refl, sym, ap, ◌∙◌, arith}
use Rattle.std.specs.Map.{lookup, set_value}
use Rattle.std.specs.BTreeMap.{is_at}
use Rattle.std.proofs.lemmas.Bool.{and_from, and_parts, eq-eqb, eqb-true}
use Rattle.std.proofs.lemmas.Bool.Decides.{nat_tests}
use Rattle.rows.specs.declared.entry.Entry.{Entry}
use Rattle.rows.specs.declared.entry.Entry.TheVariants.{Insert, Patch, Delete, AddColumn}
use Rattle.rows.specs.declared.row_id.RowId.{RowId}
use Rattle.std.proofs.lemmas.Option.{same_Some}
use Rattle.rows.specs.Entries.{table_of, row_of}
use Rattle.rows.specs.Commits.{is_of}
use Rattle.mvcc.specs.Inner.Keys.{is_key_of, names, adds_column, key_cmp}

-- an entry of a row is of that row of its table, and of no other
pub of-is : (t r : ℕ) (entry : Entry) (id : RowId) → row_of entry ≡ Some id
    → is_of t r entry ≡ ((table_of entry == t) && (id.0 == r))
of-is t r (Insert table row bytes) id e = ap (λ (n : RowId). (table == t) && (n.0 == r)) (same_Some row id e)
of-is t r (Patch table row offset bytes) id e = ap (λ (n : RowId). (table == t) && (n.0 == r)) (same_Some row id e)
of-is t r (Delete table row) id e = ap (λ (n : RowId). (table == t) && (n.0 == r)) (same_Some row id e)
of-is t r (AddColumn table default) id e = absurd cc

pub names-is : (t r : ℕ) (entry : Entry) (id : RowId) → row_of entry ≡ Some id
    → names t r entry ≡ ((table_of entry == t) && (id.0 == r))
names-is t r (Insert table row bytes) id e = ap (λ (n : RowId). (table == t) && (n.0 == r)) (same_Some row id e)
names-is t r (Patch table row offset bytes) id e = ap (λ (n : RowId). (table == t) && (n.0 == r)) (same_Some row id e)
names-is t r (Delete table row) id e = ap (λ (n : RowId). (table == t) && (n.0 == r)) (same_Some row id e)
names-is t r (AddColumn table default) id e = absurd cc

pub names-none : (t r : ℕ) (entry : Entry) → row_of entry ≡ None → names t r entry ≡ false
names-none t r (Insert table row bytes) e = absurd cc
names-none t r (Patch table row offset bytes) e = absurd cc
names-none t r (Delete table row) e = absurd cc
names-none t r (AddColumn table default) e = refl

pub of-own : (entry : Entry) (id : RowId) → row_of entry ≡ Some id → is_of (table_of entry) id.0 entry ≡ true
of-own entry id e =
    of-is (table_of entry) id.0 entry id e
    ∙ and_from _ _ (eq-eqb (table_of entry) (table_of entry) refl) (eq-eqb id.0 id.0 refl)

-- one that is of no row alone is of every row of its table
pub of-any : (r : ℕ) (entry : Entry) → row_of entry ≡ None → is_of (table_of entry) r entry ≡ true
of-any r (Insert table row bytes) e = absurd cc
of-any r (Patch table row offset bytes) e = absurd cc
of-any r (Delete table row) e = absurd cc
of-any r (AddColumn table default) e = eq-eqb table table refl

-- an entry that names a row is of it
pub named : (t r : ℕ) (entry : Entry) → names t r entry ≡ true
    → (id : RowId) × (row_of entry ≡ Some id) × (table_of entry ≡ t) × (id.0 ≡ r)
named t r (Insert table row bytes) e =
    let parts = and_parts (table == t) (row.0 == r) e in (row, refl, eqb-true table t parts.0, eqb-true row.0 r parts.1)
named t r (Patch table row offset bytes) e =
    let parts = and_parts (table == t) (row.0 == r) e in (row, refl, eqb-true table t parts.0, eqb-true row.0 r parts.1)
named t r (Delete table row) e =
    let parts = and_parts (table == t) (row.0 == r) e in (row, refl, eqb-true table t parts.0, eqb-true row.0 r parts.1)
named t r (AddColumn table default) e = absurd cc

-- an entry is of rows of its own table
pub of-table : (t r : ℕ) (entry : Entry) → is_of t r entry ≡ true → table_of entry ≡ t
of-table t r (Insert table row bytes) e = eqb-true table t (and_parts (table == t) (row.0 == r) e).0
of-table t r (Patch table row offset bytes) e = eqb-true table t (and_parts (table == t) (row.0 == r) e).0
of-table t r (Delete table row) e = eqb-true table t (and_parts (table == t) (row.0 == r) e).0
of-table t r (AddColumn table default) e = eqb-true table t e

pub of-parts : (t r : ℕ) (entry : Entry) (id : RowId) → row_of entry ≡ Some id → is_of t r entry ≡ true
    → (table_of entry ≡ t) × (id.0 ≡ r)
of-parts t r entry id own e =
    let parts = and_parts (table_of entry == t) (id.0 == r) (sym (of-is t r entry id own) ∙ e) in
    (eqb-true (table_of entry) t parts.0, eqb-true id.0 r parts.1)

-- an entry of a row adds no column
pub adds-none : (entry : Entry) (id : RowId) → row_of entry ≡ Some id → adds_column entry ≡ false
adds-none (Insert table row bytes) id e = refl
adds-none (Patch table row offset bytes) id e = refl
adds-none (Delete table row) id e = refl
adds-none (AddColumn table default) id e = absurd cc

-- two tests that answer alike find the same
lookup-alike : {K X : Type 0} (f g : K → Bool) (es : List (K × X)) → ((k : K) → f k ≡ g k) → lookup f es ≡ lookup g es
lookup-alike f g [] h = refl
lookup-alike f g (e ∷ es) h = ap (λ b. cond b (Some e.1) (lookup f es)) (h e.0) ∙ ap (cond (g e.0) (Some e.1)) (lookup-alike f g es h)

is_key-cmp : (table row : ℕ) (key : ℕ × ℕ) → is_at (key_cmp (table, row)) key ≡ is_key_of table row key
is_key-cmp table row key = grind (arith, nat_tests)

same_key : (table row t r : ℕ) → is_at (key_cmp (table, row)) (t, r) ≡ ((table == t) && (row == r))
same_key table row t r = grind (arith, nat_tests)

-- what the map finds
pub lookup-key : {X : Type 0} (es : List ((ℕ × ℕ) × X)) (table row : ℕ)
    → lookup (is_at (key_cmp (table, row))) es ≡ lookup (is_key_of table row) es
lookup-key es table row = lookup-alike (is_at (key_cmp (table, row))) (is_key_of table row) es (λ key. is_key-cmp table row key)

-- what it finds once the entry of a row that is there was changed
set-key : {X : Type 0} (es : List ((ℕ × ℕ) × X)) (table row t r : ℕ) (x was : X)
    → lookup (is_at (key_cmp (table, row))) es ≡ Some was
    → lookup (is_at (key_cmp (t, r))) (set_value (is_at (key_cmp (table, row))) es x) ≡ cond (is_at (key_cmp (table, row)) (t, r)) (Some x)
    (lookup (is_at (key_cmp (t, r))) es)
set-key [] table row t r x was h = cc
set-key (e ∷ es) table row t r x was h = by (is_at (key_cmp (table, row)) e.0) refl (set-key es table row t r x was) h
  where
    by : (here : Bool) → is_at (key_cmp (table, row)) e.0 ≡ here
        → (lookup (is_at (key_cmp (table, row))) es ≡ Some was
        → lookup (is_at (key_cmp (t, r))) (set_value (is_at (key_cmp (table, row))) es x) ≡ cond (is_at (key_cmp (table, row)) (t, r))
        (Some x) (lookup (is_at (key_cmp (t, r))) es))
        → cond here (Some e.1) (lookup (is_at (key_cmp (table, row))) es) ≡ Some was
        → lookup (is_at (key_cmp (t, r))) (cond here ((e.0, x) ∷ es) (e ∷ set_value (is_at (key_cmp (table, row))) es x))
        ≡ cond (is_at (key_cmp (table, row)) (t, r)) (Some x) (cond (is_at (key_cmp (t, r)) e.0) (Some e.1)
        (lookup (is_at (key_cmp (t, r))) es))
    by true f next h = grind (arith, nat_tests)
    by false f next h = let rest = next h in grind (arith, nat_tests)

pub lookup-set : {X : Type 0} (es : List ((ℕ × ℕ) × X)) (table row : ℕ) (x was : X)
    → lookup (is_at (key_cmp (table, row))) es ≡ Some was
    → (t r : ℕ) → lookup (is_key_of t r) (set_value (is_at (key_cmp (table, row))) es x) ≡ cond ((table == t) && (row == r)) (Some x)
    (lookup (is_key_of t r) es)
lookup-set es table row x was h t r =
    sym (lookup-key (set_value (is_at (key_cmp (table, row))) es x) t r)
    ∙ set-key es table row t r x was h
    ∙ ap (λ here. cond here (Some x) (lookup (is_at (key_cmp (t, r))) es)) (same_key table row t r)
    ∙ ap (cond ((table == t) && (row == r)) (Some x)) (lookup-key es t r)

-- what it finds of a row, and of any other, once one row's entry was put into it
pub lookup-put : {X : Type 0} (es after : List ((ℕ × ℕ) × X)) (table row : ℕ) (x : X)
    → ((key : ℕ × ℕ) → lookup (is_at (key_cmp key)) after ≡ cond (is_at (key_cmp (table, row)) key) (Some x)
    (lookup (is_at (key_cmp key)) es))
    → (t r : ℕ) → lookup (is_key_of t r) after ≡ cond ((table == t) && (row == r)) (Some x) (lookup (is_key_of t r) es)
lookup-put es after table row x h t r =
    sym (lookup-key after t r)
    ∙ h (t, r)
    ∙ ap (λ here. cond here (Some x) (lookup (is_at (key_cmp (t, r))) es)) (same_key table row t r)
    ∙ ap (cond ((table == t) && (row == r)) (Some x)) (lookup-key es t r)
