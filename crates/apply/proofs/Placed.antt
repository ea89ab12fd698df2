-- The row at an index of rows that rise: that below which as many stand.
use Rattle.std.proofs.Common.{◌≡◌, ℕ, suc, zero, ◌+◌, ◌<◌, ◌≤◌, Bool, true, false, [], ◌∷◌, Some, nat_lt, refl, ap, arith}
use Rattle.std.proofs.lemmas.Bool.Decides.{nat_tests}
use Rattle.rows.specs.Tables.{Rows}
use Rattle.store.specs.Changes.{id_in, IsAboveAllBefore}
use Rattle.apply.specs.Orders.{AllOver, Rising, place_in}

past : (low id : ℕ) (rows : Rows) → AllOver low rows → id ≤ low + 1 → place_in rows id ≡ 0
past low id [] over le = refl
past low id (row ∷ rows) over le = let lt = over.0 in grind (arith, nat_tests, lt)

pub place-none : (rows : Rows) → place_in rows 0 ≡ 0
place-none [] = refl
place-none (row ∷ rows) = grind (arith, nat_tests)

-- as many below it, and one more with it
pub id-between : (rows : Rows) (i id : ℕ) → Rising rows → place_in rows id ≤ i → i < place_in rows (id + 1) → Some id ≡ id_in rows i
id-between [] i id rise low high = absurd (omega arith)
id-between (row ∷ rows) zero id rise low high = by (nat_lt row.0 id) refl (nat_lt row.0 (id + 1)) refl
  where
    by : (below : Bool) → nat_lt row.0 id ≡ below → (within : Bool) → nat_lt row.0 (id + 1) ≡ within → Some id ≡ Some row.0
    by true e within f = absurd (grind (arith, nat_tests, e, low))
    by false e false f = absurd (grind (arith, nat_tests, f, high))
    by false e true f = ap (λ (n : ℕ). Some n) (grind (arith, nat_tests, e, f))
id-between (row ∷ rows) (suc i) id rise low high =
    by (nat_lt row.0 id) refl (nat_lt row.0 (id + 1)) refl (λ l h. id-between rows i id rise.1 l h)
  where
    by : (below : Bool) → nat_lt row.0 id ≡ below → (within : Bool) → nat_lt row.0 (id + 1) ≡ within
        → (place_in rows id ≤ i → i < place_in rows (id + 1) → Some id ≡ id_in rows i) → Some id ≡ id_in rows i
    by true e within f rest =
        rest (grind (arith, nat_tests, e, low)) (grind (arith, nat_tests, e, high))
    by false e false f rest = absurd (grind (arith, nat_tests, f, high))
    by false e true f rest =
        let none = past row.0 (id + 1) rows rise.0 (grind (arith, nat_tests, e)) in absurd (grind (arith, nat_tests, f, high, none))

-- each row before it is below it
below-each : (rows : Rows) (low i id : ℕ) → AllOver low rows → Some id ≡ id_in rows i → low < id
below-each [] low i id over e = cc
below-each (row ∷ rows) low zero id over e = let lt = over.0 in grind (arith, nat_tests, e, lt)
below-each (row ∷ rows) low (suc i) id over e = below-each rows low i id over.1 e

pub above-before : (rows : Rows) (i id : ℕ) → Rising rows → Some id ≡ id_in rows i → IsAboveAllBefore rows i id
above-before [] i id rise e j lt = cc
above-before (row ∷ rows) zero id rise e j lt = absurd (omega arith)
above-before (row ∷ rows) (suc i) id rise e zero lt = below-each rows row.0 i id rise.0 e
above-before (row ∷ rows) (suc i) id rise e (suc j) lt = above-before rows i id rise.1 e j (omega arith)
