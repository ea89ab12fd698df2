-- The identifiers of a table's rows, rising: where one stands among them, and one more or one fewer.
use Rattle.std.proofs.Common.{◌≡◌, ℕ, zero, suc, ◌+◌, ◌<◌, ◌≤◌, List, [], ◌∷◌, length, get_or, true, false}
use Rattle.std.proofs.Common.{None, Some, refl, sym, ap, ◌∙◌, nat_lt, arith}
use Rattle.std.specs.List.{insert, remove, prefix_len}
use Rattle.std.specs.List.Sorted.{IsStrictlySortedBy, IsPartitionPoint}
use Rattle.std.specs.Map.{keys_of, remove_entry}
use Rattle.std.specs.Ordering.{nat_cmp}
use Rattle.std.specs.BTreeMap.{is_at}
use Rattle.std.specs.Option.{is_some}
use Rattle.std.proofs.lemmas.Bool.{false≢true}
use Rattle.std.proofs.lemmas.Bool.Decides.{nat_tests}
use Rattle.std.proofs.lemmas.List.Sums.{prefix_len_is}
use Rattle.std.proofs.lemmas.Map.{lookup-none}
use Rattle.std.proofs.lemmas.Map.Entries.{none_below_head}
use Rattle.std.proofs.lemmas.Map.Keys.{sorted_tail}
use Rattle.std.specs.Cmp.{nat_cmp_total}
use Rattle.rows.specs.declared.value.Value.{Value}
use Rattle.rows.specs.Tables.{Rows, row_at, is_present, with_row}
use Rattle.store.specs.Changes.{id_in}

-- how many of these identifiers are below one: its place, where they rise
abbrev pub below : ℕ → List ℕ → ℕ
below row ids = prefix_len (λ id. nat_lt id row) ids

-- behind one that is kept
insert-next : (first i j id : ℕ) (ids : List ℕ) → j ≡ suc i → insert (first ∷ ids) j id ≡ first ∷ insert ids i id
insert-next first i j id ids e = rw e refl

remove-next : (first i j : ℕ) (ids : List ℕ) → j ≡ suc i → remove (first ∷ ids) j ≡ first ∷ remove ids i
remove-next first i j ids e = rw e refl

-- a row that is put in stands at its place
pub keys_of-with_row : (rows : Rows) (row : ℕ) (values : List Value) → row_at rows row ≡ None
    → keys_of (with_row rows row values) ≡ insert (keys_of rows) (below row (keys_of rows)) row
keys_of-with_row [] row values h = refl
keys_of-with_row (first ∷ rows) row values h =
    let i = below row (keys_of rows) in
    let next = insert-next first.0 i (1 + i) row (keys_of rows) (omega arith) in
    grind (arith, nat_tests, keys_of-with_row rows row values, next)

-- a row below the first is not there
absent-below : (first : ℕ × List Value) (rows : Rows) (row : ℕ) → IsStrictlySortedBy nat_cmp (keys_of (first ∷ rows))
    → is_present (first ∷ rows) row ≡ true → row < first.0 → ⊥
absent-below first rows row h there lt =
    let none : row_at (first ∷ rows) row ≡ None =
    lookup-none (is_at (nat_cmp row)) (first ∷ rows) (none_below_head nat_cmp_total row first rows h (grind (arith, nat_tests))) in
    false≢true (ap is_some (sym none) ∙ there)

-- the place of a row that is there is one of them
pub below-present : (rows : Rows) (row : ℕ) → IsStrictlySortedBy nat_cmp (keys_of rows) → is_present rows row ≡ true
    → below row (keys_of rows) < length rows
below-present [] row h there = absurd (false≢true there)
below-present (first ∷ rows) row h there =
    let least = absent-below first rows row h there in
    let tail = sorted_tail nat_cmp first.0 (keys_of rows) h in
    grind (arith, nat_tests, least, below-present rows row tail)

-- a row that is taken out stood at its place
pub keys_of-remove_entry : (rows : Rows) (row : ℕ) → IsStrictlySortedBy nat_cmp (keys_of rows) → is_present rows row ≡ true
    → keys_of (remove_entry (is_at (nat_cmp row)) rows) ≡ remove (keys_of rows) (below row (keys_of rows))
keys_of-remove_entry [] row h there = absurd (false≢true there)
keys_of-remove_entry (first ∷ rows) row h there =
    let least = absent-below first rows row h there in
    let tail = sorted_tail nat_cmp first.0 (keys_of rows) h in
    let i = below row (keys_of rows) in
    let next = remove-next first.0 i (1 + i) (keys_of rows) (omega arith) in
    grind (arith, nat_tests, least, keys_of-remove_entry rows row tail, next)

-- the identifier at a place, as the list has it
pub id_in-keys_of : (rows : Rows) (i id : ℕ) → i < length rows → id ≡ get_or (keys_of rows) i id → Some id ≡ id_in rows i
id_in-keys_of [] i id h e = absurd (omega arith)
id_in-keys_of (first ∷ rows) zero id h e = ap (λ (n : ℕ). Some n) e
id_in-keys_of (first ∷ rows) (suc i) id h e = id_in-keys_of rows i id (omega arith) e

-- the place that a halving finds
pub below-partition : (row : ℕ) (ids : List ℕ) (i : ℕ) → i ≤ length ids
    → IsPartitionPoint (λ id. nat_lt id row ≡ true) (λ id. nat_lt id row ≡ false) ids i → i ≡ below row ids
below-partition row ids i h e =
    sym (prefix_len_is (λ id. nat_lt id row) ids i 0 h (λ k lt. e.0 k 0 (omega arith) lt) (λ lt. e.1 i 0 (omega arith) lt))
