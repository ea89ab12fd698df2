-- How many rows there are up to the end of each block.
use Rattle.std.proofs.Common.{◌≡◌, ℕ, zero, suc, ◌+◌, ◌-◌, ◌<◌, ◌≤◌, List, [], ◌∷◌, ◌++◌, length, get_or, take, drop, slice_get, slice_set}
use Rattle.std.proofs.Common.{refl, sym, ap, ◌∙◌, arith}
use Rattle.std.proofs.lemmas.List.{length-append, take_more, take-take}
use Rattle.rows.specs.Tables.{Rows, Table}
use Rattle.apply.specs.Blocks.{cell_in}
use Rattle.apply.specs.Inner.Joins.{joined, ends_from, end_before}
use Rattle.apply.proofs.Joined.{joined-at}

pub ends-length : (before : ℕ) (blocks : List Table) → length (ends_from before blocks) ≡ length blocks
ends-length before [] = refl
ends-length before (block ∷ blocks) = ap suc (ends-length (before + length block.rows) blocks)

end-at : (before k d : ℕ) (blocks : List Table) → k < length blocks
    → get_or (ends_from before blocks) k d ≡ before + length (joined (take (suc k) blocks))
end-at before k d [] lt = absurd (omega arith)
end-at before zero d (block ∷ blocks) lt = omega (arith, length-append block.rows [])
end-at before (suc k) d (block ∷ blocks) lt =
    omega (arith, end-at (before + length block.rows) k d blocks (omega arith), length-append block.rows (joined (take (suc k) blocks)))

pub end-before : (k : ℕ) (blocks : List Table) → k ≤ length blocks → end_before (ends_from 0 blocks) k ≡ length (joined (take k blocks))
end-before zero blocks le = refl
end-before (suc k) blocks le = omega (arith, end-at 0 k 0 blocks (omega arith))

pub ends-take : (before k : ℕ) (blocks : List Table) → take k (ends_from before blocks) ≡ ends_from before (take k blocks)
ends-take before zero blocks = refl
ends-take before (suc k) [] = refl
ends-take before (suc k) (block ∷ blocks) =
    ap (λ ends. (before + length block.rows) ∷ ends) (ends-take (before + length block.rows) k blocks)

ends-append : (before all : ℕ) (blocks : List Table) (block : Table) → all ≡ before + length (joined blocks) + length block.rows
    → ends_from before (blocks ++ block ∷ []) ≡ ends_from before blocks ++ all ∷ []
ends-append before all [] block e = let same : before + length block.rows ≡ all = omega (arith, e) in ap (λ n. n ∷ []) same
ends-append before all (first ∷ blocks) block e =
    ap (λ ends. (before + length first.rows) ∷ ends)
    (ends-append (before + length first.rows) all blocks block (omega (arith, e, length-append first.rows (joined blocks))))

-- one block more
pub ends-more : (k all : ℕ) (blocks : List Table) (d : Table) → k < length blocks
    → all ≡ length (joined (take k blocks)) + length (get_or blocks k d).rows
    → ends_from 0 (take (k + 1) blocks) ≡ ends_from 0 (take k blocks) ++ all ∷ []
ends-more k all blocks d lt e =
    ap (ends_from 0) (take_more blocks k d lt) ∙ ends-append 0 all (take k blocks) (get_or blocks k d) (omega (arith, e))

-- a block with as many rows in the place of one
pub ends-set : (before k : ℕ) (blocks : List Table) (d new : Table) → length new.rows ≡ length (get_or blocks k d).rows
    → ends_from before (slice_set blocks k new) ≡ ends_from before blocks
ends-set before k [] d new same = refl
ends-set before zero (block ∷ blocks) d new same = ap (λ n. (before + n) ∷ ends_from (before + n) blocks) same
ends-set before (suc k) (block ∷ blocks) d new same =
    ap (λ ends. (before + length block.rows) ∷ ends) (ends-set (before + length block.rows) k blocks d new same)

-- up to a block that stands as before
pub take-same : (k m : ℕ) (olds news : List Table) → k ≤ m → take m news ≡ take m olds → take k news ≡ take k olds
take-same k m olds news le same = sym (take-take k m news le) ∙ ap (take k) same ∙ take-take k m olds le

pub ends-front : (k : ℕ) (olds news : List Table) → take k news ≡ take k olds → take k (ends_from 0 olds) ≡ ends_from 0 (take k news)
ends-front k olds news same = ends-take 0 k olds ∙ ap (ends_from 0) (sym same)

-- the end of the block before
pub end-is : (ends : List ℕ) (k : ℕ) → 0 < k → end_before ends k ≡ get_or ends (k - 1) 0
end-is ends zero some = absurd (omega arith)
end-is ends (suc k) some = let same : suc k - 1 ≡ k = omega arith in rw same refl

-- ---- a row at a position of all

get-skip : (front back : Rows) (i : ℕ) → slice_get (front ++ back) (length front + i) ≡ slice_get back i
get-skip [] back i = let same : 0 + i ≡ i = omega arith in rw same refl
get-skip (row ∷ front) back i = let same : suc (length front) + i ≡ suc (length front + i) = omega arith in rw same (get-skip front back i)

get-front : (rows back : Rows) (i : ℕ) → i < length rows → slice_get (rows ++ back) i ≡ slice_get rows i
get-front [] back i lt = absurd (omega arith)
get-front (row ∷ rows) back zero lt = refl
get-front (row ∷ rows) back (suc i) lt = get-front rows back i (omega arith)

-- the cell of a row at a position is that of its block
pub joined-cell : (blocks : List Table) (m at i column : ℕ) (d : Table) → m < length blocks → at ≡ length (joined (take m blocks)) + i
    → i < length (get_or blocks m d).rows → cell_in (joined blocks) at column ≡ cell_in (get_or blocks m d).rows i column
joined-cell blocks m at i column d lt is within =
    let rows = (get_or blocks m d).rows in
    let same : slice_get (joined blocks) at ≡ slice_get rows i =
    ap (λ rows. slice_get rows at) (joined-at blocks m d lt)
    ∙ ap (slice_get (joined (take m blocks) ++ (rows ++ joined (drop (m + 1) blocks)))) is
    ∙ get-skip (joined (take m blocks)) (rows ++ joined (drop (m + 1) blocks)) i
    ∙ get-front rows (joined (drop (m + 1) blocks)) i within in
    rw same refl
