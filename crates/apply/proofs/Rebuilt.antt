-- A piece of which each block has one column more, or one fewer.
use Rattle.std.proofs.Common.{◌≡◌, ℕ, zero, suc, ◌+◌, ◌-◌, ◌<◌, true, List, [], ◌∷◌, ◌++◌, length, map, take, get_or, refl, sym, ap, ◌∙◌}
use Rattle.std.proofs.Common.{arith}
use Rattle.std.specs.List.{list_all}
use Rattle.std.specs.Map.{keys_of}
use Rattle.std.proofs.lemmas.Bool.{and_parts}
use Rattle.std.proofs.lemmas.List.{length-map, get_or-map, map-append, length-take-le}
use Rattle.std.proofs.lemmas.List.Sums.{sum_by-take-drop}
use Rattle.std.proofs.lemmas.Map.Entries.{length-keys_of}
use Rattle.rows.specs.declared.kind.Kind.{Kind}
use Rattle.rows.specs.declared.value.Value.{Value}
use Rattle.rows.specs.Shape.{AreColumns, is_good, width_of}
use Rattle.rows.specs.Tables.{Rows, Table, with_column}
use Rattle.apply.specs.Blocks.{wider, narrower}
use Rattle.apply.specs.Inner.Joins.{joined, ends_from, AreBlocks}
use Rattle.apply.proofs.Ordered.{rising-keys}
use Rattle.apply.proofs.Widened.{front_of, keys-with_column, keys-front}

-- ---- blocks of which each keeps its identifiers

module _ (change : Table → Table) (same : (block : Table) → keys_of (change block).rows ≡ keys_of block.rows) where
  one-many : (block : Table) → length (change block).rows ≡ length block.rows
  one-many block = omega (arith, ap length (same block), length-keys_of (change block).rows, length-keys_of block.rows)

  all-keys : (blocks : List Table) → keys_of (joined (map change blocks)) ≡ keys_of (joined blocks)
  all-keys [] = refl
  all-keys (block ∷ blocks) =
      map-append (λ (row : ℕ × List Value). row.0) (change block).rows (joined (map change blocks))
      ∙ ap (λ keys. keys ++ keys_of (joined (map change blocks))) (same block)
      ∙ ap (λ keys. keys_of block.rows ++ keys) (all-keys blocks)
      ∙ sym (map-append (λ (row : ℕ × List Value). row.0) block.rows (joined blocks))

  pub all-many : (blocks : List Table) → length (joined (map change blocks)) ≡ length (joined blocks)
  all-many blocks =
      omega (
        arith,
        ap length (all-keys blocks),
        length-keys_of (joined (map change blocks)),
        length-keys_of (joined blocks),
      )

  pub all-ends : (before : ℕ) (blocks : List Table) → ends_from before (map change blocks) ≡ ends_from before blocks
  all-ends before [] = refl
  all-ends before (block ∷ blocks) =
      ap (λ n. (before + n) ∷ ends_from (before + n) (map change blocks)) (one-many block)
      ∙ ap (λ ends. (before + length block.rows) ∷ ends) (all-ends (before + length block.rows) blocks)

  pub all-blocks : (kinds new : List Kind) (blocks : List Table) → ((block : Table) → block.kinds ≡ kinds → (change block).kinds ≡ new)
      → AreBlocks kinds blocks → AreBlocks new (map change blocks)
  all-blocks kinds new blocks alike are = record {
    alike = λ k d lt.
        let within : k < length blocks = omega (arith, lt, length-map blocks change) in
        ap (λ (block : Table). block.kinds) (get_or-map change blocks k d d within) ∙ alike (get_or blocks k d) (are.alike k d within);
    some = λ k d lt.
        let within : k < length blocks = omega (arith, lt, length-map blocks change) in
        omega (
          arith,
          ap (λ (block : Table). length block.rows) (get_or-map change blocks k d d within),
          one-many (get_or blocks k d),
          are.some k d within,
        );
    rise = rising-keys (joined blocks) (joined (map change blocks)) (all-keys blocks) are.rise;
  }

-- ---- one column more

pub wider-keys : (default : Value) (block : Table) → keys_of (wider default block).rows ≡ keys_of block.rows
wider-keys default block = sym (keys-with_column default block.rows)

pub joined-wider : (default : Value) (blocks : List Table) → joined (map (wider default) blocks) ≡ with_column default (joined blocks)
joined-wider default [] = refl
joined-wider default (block ∷ blocks) =
    ap (λ (rows : Rows). with_column default block.rows ++ rows) (joined-wider default blocks)
    ∙ sym (map-append (λ (row : ℕ × List Value). (row.0, row.1 ++ default ∷ [])) block.rows (joined blocks))

-- ---- one column fewer

pub narrower-keys : (block : Table) → keys_of (narrower block).rows ≡ keys_of block.rows
narrower-keys block = keys-front block.rows

pub joined-narrower : (blocks : List Table) → joined (map narrower blocks) ≡ map front_of (joined blocks)
joined-narrower [] = refl
joined-narrower (block ∷ blocks) =
    ap (λ (rows : Rows). map front_of block.rows ++ rows) (joined-narrower blocks)
    ∙ sym (map-append front_of block.rows (joined blocks))

good-take : (kinds : List Kind) (n : ℕ) → list_all is_good kinds ≡ true → list_all is_good (take n kinds) ≡ true
good-take kinds zero good = refl
good-take [] (suc n) good = refl
good-take (kind ∷ kinds) (suc n) good =
    let both = and_parts (is_good kind) (list_all is_good kinds) good in
    rw both.0 (good-take kinds n both.1)

-- kinds that a table's columns may have, without the last of several
pub columns-front : (kinds : List Kind) → 1 < length kinds → AreColumns kinds → AreColumns (take (length kinds - 1) kinds)
columns-front kinds two are =
    let many : length (take (length kinds - 1) kinds) ≡ length kinds - 1 = length-take-le (length kinds - 1) kinds (omega arith) in
    record {
      some = omega (arith, many);
      few = omega (arith, many, are.few);
      good = good-take kinds (length kinds - 1) are.good;
      narrow = omega (arith, sum_by-take-drop width_of kinds (length kinds - 1), are.narrow);
    }
