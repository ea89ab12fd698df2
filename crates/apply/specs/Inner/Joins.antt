-- The rows of blocks, one behind the other.
use Rattle.std.specs.Prelude.{◌≡◌, ℕ, zero, suc, ◌+◌, ◌<◌, List, [], ◌∷◌, length, take, drop, slice_index_or}
use Rattle.std.specs.List.{flat_map}
use Rattle.rows.specs.declared.kind.Kind.{Kind}
use Rattle.apply.specs.Orders.{AllOver, AllUnder, Rising}
use Rattle.rows.specs.Tables.{Rows, Table}

abbrev pub joined : List Table → Rows
joined blocks = flat_map (λ (block : Table). block.rows) blocks

-- no block is empty
abbrev pub AllHaveRows : List Table → Type 0
AllHaveRows blocks = (k : ℕ) (d : Table) → k < length blocks → 0 < length (slice_index_or blocks k d).rows

-- blocks of a table with columns of these kinds: none is empty, and the identifiers rise over all of them
pub record AreBlocks (kinds : List Kind) (blocks : List Table) : Type 0 where
  pub alike : (k : ℕ) (d : Table) → k < length blocks → (slice_index_or blocks k d).kinds ≡ kinds
  pub some : AllHaveRows blocks
  pub rise : Rising (joined blocks)

-- where a row stands or goes
pub record IsHome (blocks : List Table) (m row : ℕ) : Type 0 where
  pub within : m < length blocks
  pub front : AllUnder row (joined (take m blocks))
  pub back : AllOver row (joined (drop (m + 1) blocks))

-- how many rows there are up to the end of each block, where so many stand before the first
abbrev pub ends_from : ℕ → List Table → List ℕ
ends_from before [] = []
ends_from before (block ∷ blocks) = (before + length block.rows) ∷ ends_from (before + length block.rows) blocks

-- how many there are before a block, told from these
abbrev pub end_before : List ℕ → ℕ → ℕ
end_before ends zero = 0
end_before ends (suc block) = slice_index_or ends block 0
