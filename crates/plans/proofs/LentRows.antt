-- The identifiers that are lent of a piece, while they rise, find the rows of the piece.
use Rattle.std.proofs.Common.{◌≡◌, ℕ, zero, suc, ◌+◌, ◌<◌, ◌≤◌, ◌^◌, List, [], ◌∷◌, length, map, take, drop, get_or}
use Rattle.std.proofs.Common.{Option, Some, IsSome, slice_get, refl, sym, ap, ◌∙◌, subst, arith, below_more}
use Rattle.std.specs.Map.{keys_of}
use Rattle.std.specs.Option.{option_map, unwrap_or}
use Rattle.std.proofs.lemmas.List.{length-map, length-take-le, take-map, take-take, get_or-take, get_or-drop, get_or-map, get_or_default}
use Rattle.std.proofs.lemmas.List.{same_lists}
use Rattle.std.proofs.lemmas.Map.Entries.{length-keys_of}
use Rattle.rows.specs.declared.value.Value.{Value}
use Rattle.rows.specs.Tables.{Rows, Tables, rows_of, row_at}
use Rattle.store.specs.Laws.{IndexedRowIsFound}
use Rattle.store.specs.Lent.{rows_in, rows_from}
use Rattle.plans.specs.declared.block.Block.{Block}
use Rattle.plans.specs.Inner.BlockRows.{values_by, IsBlock, AreFound}
use Rattle.plans.specs.Inner.Pieces.{AreAtMost}
use Rattle.plans.proofs.Pieces.{above-all, most-next, scan-row}

-- the first of them
pub cut-lent : (here : Rows) (ids cut : List ℕ) (from count : ℕ) → ids ≡ keys_of (rows_from here from (length ids)) → count ≤ length ids
    → cut ≡ take count ids → cut ≡ keys_of (rows_from here from (length cut))
cut-lent here ids cut from count lent le is =
    let size = ap length is ∙ length-take-le count ids le in
    is ∙ ap (take count) lent
    ∙ take-map (λ (row : ℕ × List Value). row.0) count (take (length ids) (drop from here))
    ∙ ap keys_of (take-take count (length ids) (drop from here) le)
    ∙ ap (λ (n : ℕ). keys_of (rows_from here from n)) (sym size)

-- one more is found, and is the greatest so far
pub found-next : IndexedRowIsFound → (rows : Rows) (pieces piece : ℕ) (ids : List ℕ) (from i last : ℕ)
    → ids ≡ keys_of (rows_from (rows_in rows pieces piece) from (length ids)) → from ≤ length (rows_in rows pieces piece)
    → i < length ids → AreAtMost (rows_in rows pieces piece) (from + i) last → (0 < from + i → last < get_or ids i 0)
    → AreFound rows (rows_in rows pieces piece) from ids i
    → AreFound rows (rows_in rows pieces piece) from ids (i + 1)
    × AreAtMost (rows_in rows pieces piece) (from + (i + 1)) (get_or ids i 0)
found-next law rows pieces piece ids from i last lent within lt most rises found =
    let here = rows_in rows pieces piece in
    let id = get_or ids i 0 in
    let row = scan-row law rows pieces piece ids from i (from + i) id last lent within lt refl refl most rises in
    let at = row.1 in
    let there = row.2 in
    let values : values_by rows id ≡ row.0 = ap (λ (own : Option (List Value)). unwrap_or own []) there in
    let next : (from + i) + 1 ≡ from + (i + 1) = omega arith in (
      below_more
          (λ (j : ℕ).
          (slice_get here (from + j) ≡ Some (get_or ids j 0, values_by rows (get_or ids j 0))) × IsSome (row_at rows (get_or ids j 0)))
          i found (at ∙ ap (λ (own : List Value). Some (id, own)) (sym values), subst IsSome (sym there) refl),
      subst (λ (n : ℕ). AreAtMost here n id) next
          (most-next here (from + i) id (above-all here (from + i) last id most rises)
          (sym (ap (option_map (λ (entry : ℕ × List Value). entry.0)) at))),
    )

get-read : (rows : Rows) (i : ℕ) (row d : ℕ × List Value) → slice_get rows i ≡ Some row → get_or rows i d ≡ row
get-read [] i row d e = absurd (cc)
get-read (first ∷ rows) zero row d e = cc
get-read (first ∷ rows) (suc i) row d e = get-read rows i row d e

-- the rows are those that the identifiers find
found-rows : (rows here : Rows) (from : ℕ) (ids : List ℕ) → ids ≡ keys_of (rows_from here from (length ids))
    → AreFound rows here from ids (length ids) → rows_from here from (length ids) ≡ map (λ id. (id, values_by rows id)) ids
found-rows rows here from ids lent found =
    let with_values : ℕ → ℕ × List Value = λ id. (id, values_by rows id) in
    let size = sym (ap length lent ∙ length-keys_of (rows_from here from (length ids))) in
    same_lists (rows_from here from (length ids)) (map with_values ids) (size ∙ sym (length-map ids with_values))
    (λ k d lt.
    let below : k < length ids = omega (arith, lt, size) in
    get_or-take (length ids) (drop from here) k d below
    ∙ get_or-drop from here k d
    ∙ get-read here (from + k) (get_or ids k 0, values_by rows (get_or ids k 0)) d (found k below).0
    ∙ sym (get_or-map with_values ids k 0 d below))

pub is-block : (tables : Tables) (block : Block) → length block.ids.now < 2 ^ 32 → 0 < block.pieces
    → block.ids.now
    ≡ keys_of (rows_from (rows_in (rows_of tables block.table) block.pieces block.piece) block.from (length block.ids.now))
    → AreFound (rows_of tables block.table) (rows_in (rows_of tables block.table) block.pieces block.piece) block.from block.ids.now
    (length block.ids.now)
    → IsBlock tables block
is-block tables block few some lent found = record {
  few = few;
  there = λ k d lt.
      subst (λ (id : ℕ). IsSome (row_at (rows_of tables block.table) id)) (get_or_default block.ids.now k 0 d lt) (found k lt).1;
  some = λ lends. some;
  lent = λ lends.
      found-rows (rows_of tables block.table) (rows_in (rows_of tables block.table) block.pieces block.piece) block.from block.ids.now
      lent found;
}
