-- Counts of the same workers, compared one by one; and counts that are all 0.
use Rattle.std.proofs.Common.{◌≡◌, ℕ, zero, suc, ◌+◌, ◌<◌, ◌≤◌, ◌^◌, true, ◌&&◌, List, [], ◌∷◌, ◌++◌, length, drop, replicate, get_or}
use Rattle.std.proofs.Common.{nat_le, refl, sym, ap, ◌∙◌, arith, add-one}
use Rattle.std.specs.Cmp.Lexicographic.{pointwise}
use Rattle.std.specs.List.{AllByRecursion}
use Rattle.std.proofs.lemmas.List.{drop_more, drop_all}
use Rattle.std.proofs.lemmas.Bool.{and_parts, leb-true, true≢false}

-- from a worker on, worker by worker
pub pointwise-at : (lows counts : List ℕ) (worker : ℕ) → worker < length lows → worker < length counts
    → pointwise nat_le (drop worker lows) (drop worker counts)
    ≡ (nat_le (get_or lows worker 0) (get_or counts worker 0) && pointwise nat_le (drop (worker + 1) lows) (drop (worker + 1) counts))
pointwise-at lows counts worker within counted =
    ap (λ (l : List ℕ). pointwise nat_le l (drop worker counts)) (drop_more lows worker 0 within)
    ∙ ap (pointwise nat_le (get_or lows worker 0 ∷ drop (worker + 1) lows)) (drop_more counts worker 0 counted)

-- and past the last, none is left
pub pointwise-past : (lows counts : List ℕ) (worker : ℕ) → length lows ≤ worker → length counts ≤ worker
    → pointwise nat_le (drop worker lows) (drop worker counts) ≡ true
pointwise-past lows counts worker past counted =
    ap (λ (l : List ℕ). pointwise nat_le l (drop worker counts)) (drop_all worker lows past)
    ∙ ap (λ (l : List ℕ). pointwise nat_le [] l) (drop_all worker counts counted)

-- there are as many
pub pointwise-length : (lows counts : List ℕ) → pointwise nat_le lows counts ≡ true → length lows ≡ length counts
pointwise-length [] [] h = refl
pointwise-length [] (count ∷ counts) h = absurd (true≢false (sym h))
pointwise-length (low ∷ lows) [] h = absurd (true≢false (sym h))
pointwise-length (low ∷ lows) (count ∷ counts) h =
    ap suc (pointwise-length lows counts (and_parts (nat_le low count) (pointwise nat_le lows counts) h).1)

-- and so they are of 64 bits if the others are
pub pointwise-below : (lows counts : List ℕ) → pointwise nat_le lows counts ≡ true → AllByRecursion (λ count. count < 2 ^ 64) counts
    → AllByRecursion (λ low. low < 2 ^ 64) lows
pointwise-below [] counts h fits = tt
pointwise-below (low ∷ lows) [] h fits = absurd (true≢false (sym h))
pointwise-below (low ∷ lows) (count ∷ counts) h fits =
    let parts = and_parts (nat_le low count) (pointwise nat_le lows counts) h in
    (omega (arith, leb-true low count parts.0, fits.0), pointwise-below lows counts parts.1 fits.1)

-- one more 0
pub replicate-more : (count : ℕ) → ◌++◌ {A = ℕ} (replicate count 0) (0 ∷ []) ≡ replicate (count + 1) 0
replicate-more count = rw add-one (more count)
  where
    more : (count : ℕ) → ◌++◌ {A = ℕ} (replicate count 0) (0 ∷ []) ≡ 0 ∷ replicate count 0
    more zero = refl
    more (suc count) = ap (λ (l : List ℕ). 0 ∷ l) (more count)
