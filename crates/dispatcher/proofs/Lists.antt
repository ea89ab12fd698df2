-- Counts of the same workers, compared one by one.
use Rattle.std.proofs.Common.{◌≡◌, ℕ, zero, suc, ◌≤◌, true, List, [], ◌∷◌, length, replicate, slice_index}
use Rattle.std.proofs.Common.{nat_le, refl, sym, ap, arith}
use Rattle.std.specs.Cmp.Lexicographic.{pointwise}
use Rattle.std.proofs.lemmas.Bool.{and_parts, and_from, leb-true, le-leb, true≢false}

-- none is below its low
pub pointwise-le : (lows counts : List ℕ) (worker : ℕ) → pointwise nat_le lows counts ≡ true
    → slice_index lows worker ≤ slice_index counts worker
pointwise-le [] [] worker h = omega arith
pointwise-le [] (count ∷ counts) worker h = omega arith
pointwise-le (low ∷ lows) [] worker h = absurd (true≢false (sym h))
pointwise-le (low ∷ lows) (count ∷ counts) zero h =
    leb-true low count (and_parts (nat_le low count) (pointwise nat_le lows counts) h).0
pointwise-le (low ∷ lows) (count ∷ counts) (suc worker) h =
    pointwise-le lows counts worker (and_parts (nat_le low count) (pointwise nat_le lows counts) h).1

-- there are as many
pub pointwise-length : (lows counts : List ℕ) → pointwise nat_le lows counts ≡ true → length lows ≡ length counts
pointwise-length [] [] h = refl
pointwise-length [] (count ∷ counts) h = absurd (true≢false (sym h))
pointwise-length (low ∷ lows) [] h = absurd (true≢false (sym h))
pointwise-length (low ∷ lows) (count ∷ counts) h =
    ap suc (pointwise-length lows counts (and_parts (nat_le low count) (pointwise nat_le lows counts) h).1)

-- as many counts, of which none is
pub le-pointwise : (lows counts : List ℕ) → length lows ≡ length counts
    → ((worker : ℕ) → slice_index lows worker ≤ slice_index counts worker) → pointwise nat_le lows counts ≡ true
le-pointwise [] [] same up = refl
le-pointwise [] (count ∷ counts) same up = absurd (omega (arith, same))
le-pointwise (low ∷ lows) [] same up = absurd (omega (arith, same))
le-pointwise (low ∷ lows) (count ∷ counts) same up =
    and_from (nat_le low count) (pointwise nat_le lows counts) (le-leb low count (up 0))
    (le-pointwise lows counts (omega (arith, same)) (λ worker. up (suc worker)))

-- no count is 0
pub none-counted : (workers worker : ℕ) → slice_index (replicate workers 0) worker ≡ 0
none-counted zero worker = refl
none-counted (suc workers) zero = refl
none-counted (suc workers) (suc worker) = none-counted workers worker

-- counts are not below themselves
pub pointwise-same : (counts : List ℕ) → pointwise nat_le counts counts ≡ true
pointwise-same counts = le-pointwise counts counts refl (λ worker. omega arith)
