-- The rows of one table: which are there once one was put in, changed or taken out.
use Rattle.std.proofs.Common.{◌≡◌, ℕ, Bool, true, false, cond, not, ◌==◌, List, [], ◌∷◌, Option, None, Some, Less, refl, inl, inr, arith}
use Rattle.std.specs.List.{AllByRecursion, filter}
use Rattle.std.specs.List.Sorted.{IsStrictlySortedBy}
use Rattle.std.specs.Map.{lookup, set_value, remove_entry, keys_of}
use Rattle.std.specs.Option.{is_some}
use Rattle.std.specs.Ordering.{nat_cmp}
use Rattle.std.specs.BTreeMap.{is_at, insert_entry}
use Rattle.std.proofs.lemmas.Bool.{cases_eq}
use Rattle.std.proofs.lemmas.Bool.Decides.{nat_tests}
use Rattle.std.proofs.lemmas.Map.Keys.{sorted_head, sorted_tail}
use Rattle.rows.specs.declared.kind.Kind.{Kind}
use Rattle.rows.specs.declared.value.Value.{Value}
use Rattle.rows.specs.Tables.{Rows, row_at, is_present, with_row, with_patch, without_row, with_column, patched_row}

-- a look-up after an insert: the new key is found, and any other as before
is_some-insert_entry : {X : Type 0} (q k : ℕ) (v : X) (es : List (ℕ × X))
    → is_some (lookup (is_at (nat_cmp q)) (insert_entry nat_cmp es k v)) ≡ cond (k == q) true (is_some (lookup (is_at (nat_cmp q)) es))
is_some-insert_entry q k v [] = grind (arith, nat_tests)
is_some-insert_entry q k v (e ∷ es) = grind (arith, nat_tests, is_some-insert_entry q k v es)

-- a look-up after a new value: the keys are the same
is_some-set_value : {X : Type 0} (p test : ℕ → Bool) (w : X) (es : List (ℕ × X))
    → is_some (lookup p (set_value test es w)) ≡ is_some (lookup p es)
is_some-set_value p test w [] = refl
is_some-set_value p test w (e ∷ es) = grind (arith, is_some-set_value p test w es)

-- a look-up after a key was taken out: that key is not found, and any other as before
is_some-filter : {X : Type 0} (q k : ℕ) (es : List (ℕ × X))
    → is_some (lookup (is_at (nat_cmp q)) (filter (λ e. not (e.0 == k)) es)) ≡ cond (k == q) false (is_some (lookup (is_at (nat_cmp q)) es))
is_some-filter q k [] = grind (arith, nat_tests)
is_some-filter q k (e ∷ es) = grind (arith, nat_tests, is_some-filter q k es)

-- once a row was put in, it is there
pub is_present-with_row : (rows : Rows) (row : ℕ) (values : List Value) (other : ℕ)
    → is_present (with_row rows row values) other ≡ cond (row == other) true (is_present rows other)
is_present-with_row rows row values other = is_some-insert_entry other row values rows

-- once a row was changed, the same rows are there
pub is_present-with_patch : (kinds : List Kind) (rows : Rows) (row offset : ℕ) (bytes : List ℕ) (other : ℕ)
    → is_present (with_patch kinds rows row offset bytes) other ≡ is_present rows other
is_present-with_patch kinds rows row offset bytes other = by (row_at rows row) refl
  where
    by : (found : Option (List Value)) → row_at rows row ≡ found
        → is_present (with_patch kinds rows row offset bytes) other ≡ is_present rows other
    by None e = rw e refl
    by (Some values) e = rw e (is_some-set_value (is_at (nat_cmp other)) (is_at (nat_cmp row)) (patched_row kinds offset bytes values) rows)

-- once a row was taken out, it is not there
pub is_present-without_row : (rows : Rows) (row other : ℕ)
    → is_present (without_row rows row) other ≡ cond (row == other) false (is_present rows other)
is_present-without_row rows row other = is_some-filter other row rows

-- once a column was added, the same rows are there
pub is_present-with_column : (default : Value) (rows : Rows) (other : ℕ)
    → is_present (with_column default rows) other ≡ is_present rows other
is_present-with_column default [] other = refl
is_present-with_column default (first ∷ rows) other = grind (arith, nat_tests, is_present-with_column default rows other)

-- where all rows come behind that row, none is taken out
without_row-above : (rows : Rows) (row : ℕ) → AllByRecursion (λ other. nat_cmp row other ≡ Less) (keys_of rows)
    → without_row rows row ≡ rows
without_row-above [] row h = refl
without_row-above (first ∷ rows) row h = grind (arith, nat_tests, h.0, without_row-above rows row h.1)

-- in a table whose identifiers ascend, the first row of that identifier is the only one
pub remove_entry-without_row : (rows : Rows) (row : ℕ) → IsStrictlySortedBy nat_cmp (keys_of rows)
    → remove_entry (is_at (nat_cmp row)) rows ≡ without_row rows row
remove_entry-without_row [] row h = refl
remove_entry-without_row (first ∷ rows) row h = elim (cases_eq row first.0) [
  | inl same ↦
      let above : AllByRecursion (λ other. nat_cmp row other ≡ Less) (keys_of rows) =
      rw same (sorted_head nat_cmp first.0 (keys_of rows) h) in
      grind (arith, without_row-above rows row above)
  | inr other ↦ grind (arith, remove_entry-without_row rows row (sorted_tail nat_cmp first.0 (keys_of rows) h))
]
