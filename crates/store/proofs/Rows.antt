-- The rows of a table in their order, and a row that is taken out.
use Rattle.std.proofs.Common.{◌≡◌, ℕ, zero, suc, ◌<◌, List, [], ◌∷◌, ◌++◌, take, None, Some, Less, refl, sym, ap, ◌∙◌}
use Rattle.std.proofs.Common.{slice_get, arith}
use Rattle.std.specs.List.{AllByRecursion}
use Rattle.std.specs.List.Sorted.{IsStrictlySortedBy}
use Rattle.std.specs.Map.{remove_entry, keys_of}
use Rattle.std.specs.Ordering.{nat_cmp}
use Rattle.std.specs.BTreeMap.{is_at, insert_entry}
use Rattle.std.proofs.lemmas.Bool.Decides.{nat_tests}
use Rattle.std.proofs.lemmas.Map.Keys.{sorted_head, sorted_tail}
use Rattle.std.proofs.lemmas.Option.{same_Some}
use Rattle.rows.specs.declared.value.Value.{Value}
use Rattle.rows.specs.Tables.{Rows, row_at, without_row, with_column}
use Rattle.store.specs.Changes.{id_in, IsAboveAllBefore}

-- a row that is not there
without_row-absent : (rows : Rows) (row : ℕ) → row_at rows row ≡ None → without_row rows row ≡ rows
without_row-absent [] row h = refl
without_row-absent (first ∷ rows) row h = grind (arith, nat_tests, without_row-absent rows row)

-- where no row of that identifier is left once the first was removed, it was the only one
pub remove_entry-only : (rows : Rows) (row : ℕ) → row_at (remove_entry (is_at (nat_cmp row)) rows) row ≡ None
    → remove_entry (is_at (nat_cmp row)) rows ≡ without_row rows row
remove_entry-only [] row h = refl
remove_entry-only (first ∷ rows) row h = grind (arith, nat_tests, without_row-absent rows row, remove_entry-only rows row)

-- where all rows come behind an identifier, it is below each
below_each : (rows : Rows) (first i id : ℕ) → AllByRecursion (λ other. nat_cmp first other ≡ Less) (keys_of rows) → id_in rows i ≡ Some id
    → first < id
below_each [] first i id h e = cc
below_each (row ∷ rows) first zero id h e = grind (arith, nat_tests, h.0)
below_each (row ∷ rows) first (suc i) id h e = below_each rows first i id h.1 e

-- in a table whose identifiers ascend, each row before a place is below the one at it
pub IsAboveAllBefore-sorted : (rows : Rows) (i id : ℕ) → IsStrictlySortedBy nat_cmp (keys_of rows) → id_in rows i ≡ Some id
    → IsAboveAllBefore rows i id
IsAboveAllBefore-sorted [] i id h e j lt = cc
IsAboveAllBefore-sorted (row ∷ rows) zero id h e j lt = absurd (omega arith)
IsAboveAllBefore-sorted (row ∷ rows) (suc i) id h e zero lt = below_each rows row.0 i id (sorted_head nat_cmp row.0 (keys_of rows) h) e
IsAboveAllBefore-sorted (row ∷ rows) (suc i) id h e (suc j) lt =
    IsAboveAllBefore-sorted rows i id (sorted_tail nat_cmp row.0 (keys_of rows) h) e j (omega arith)

-- the row at an index of a table's order
at-first : (rows : Rows) (first : ℕ × List Value) (id : ℕ) → id ≡ first.0 → row_at (first ∷ rows) id ≡ Some first.1
at-first rows first id e = grind (arith, nat_tests)

past-first : (rows : Rows) (first : ℕ × List Value) (id : ℕ) → first.0 < id → row_at (first ∷ rows) id ≡ row_at rows id
past-first rows first id lt = grind (arith, nat_tests)

pub placed : (rows : Rows) (i id : ℕ) → Some id ≡ id_in rows i → IsAboveAllBefore rows i id
    → (values : List Value) × (slice_get rows i ≡ Some (id, values)) × (row_at rows id ≡ Some values)
placed [] i id e above = absurd (cc)
placed (first ∷ rows) zero id e above =
    let same : id ≡ first.0 = same_Some id first.0 e in
    (first.1, ap (λ id. Some (id, first.1)) (sym same), at-first rows first id same)
placed (first ∷ rows) (suc i) id e above =
    let lt : first.0 < id = above zero (omega arith) in
    let rest = placed rows i id e (λ j h. above (suc j) (omega arith)) in
    (rest.0, rest.1, past-first rows first id lt ∙ rest.2)

-- the first rows with one more value, and the next one put in behind them
pub with_column-next : (rows : Rows) (i id : ℕ) (values : List Value) (default : Value) → slice_get rows i ≡ Some (id, values)
    → IsAboveAllBefore rows i id
    → insert_entry nat_cmp (with_column default (take i rows)) id (values ++ default ∷ []) ≡ with_column default (take (suc i) rows)
with_column-next [] i id values default e above = absurd cc
with_column-next (first ∷ rows) zero id values default e above =
    let same = same_Some first (id, values) e in
    ap (λ (row : ℕ × List Value). (row.0, row.1 ++ default ∷ []) ∷ []) (sym same)
with_column-next (first ∷ rows) (suc i) id values default e above =
    let lt : first.0 < id = above zero (omega arith) in
    let rest = with_column-next rows i id values default e (λ j h. above (suc j) (omega arith)) in
    grind (arith, nat_tests, rest)
