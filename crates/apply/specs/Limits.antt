-- How many partitions a store has at most, and how many rows a piece: more than any memory holds.
use Rattle.std.specs.Prelude.{ℕ, ◌^◌}

-- partitions of a store, at most
abbrev pub partitions_max : ℕ
partitions_max = 64

-- rows of a piece, at most: more than any memory holds
abbrev pub rows_max : ℕ
rows_max = 2 ^ 57

-- from how many entries on commits are applied to each partition by itself
abbrev pub together_min : ℕ
together_min = 4096
