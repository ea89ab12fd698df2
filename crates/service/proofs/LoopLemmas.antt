-- What loops over connections make of them.
use Rattle.std.proofs.Common.{arith, ◌≡◌, ◌∙◌, ℕ, ◌+◌, ◌≤◌, min, List, ◌++◌, length, map, take, drop}
use Rattle.std.proofs.lemmas.List.{take_all, drop_all, append-nil}

-- a loop that writes f of each element in its place has written them all
pub map_over_all : {X : Type 0} (f : X → X) (xs ys : List X) (i : ℕ) → length xs ≤ i → ys ≡ map f (take i xs) ++ drop i xs → ys ≡ map f xs
map_over_all f xs ys i long h = h ∙ rw (take_all i xs long, drop_all i xs long, append-nil)

-- a sum that ends at a limit, and a number more
pub min_more : (limit sum held n : ℕ) → held ≡ min sum limit → min (held + n) limit ≡ min (sum + n) limit
min_more limit sum held n h = omega arith
