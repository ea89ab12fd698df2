-- What the steps of a primary's turn do: parts of what its node does.
use Rattle.std.specs.Prelude.{ℕ, ◌==◌, List, if◌then◌else◌, nat_lt, slice_index, ◌&&◌}

-- each worker of which frames may still be pushed is looked at once
abbrev pub looked_if : List ℕ → ℕ → ℕ
looked_if left worker = if nat_lt 0 (slice_index left worker) then 1 else 0

-- one worker is looked at once, if frames of it may be pushed
abbrev pub looked_by : ℕ → ℕ → ℕ → ℕ
looked_by looker most worker = if nat_lt 0 most && (looker == worker) then 1 else 0

-- the same for the workers below this one
abbrev pub looked_before : List ℕ → ℕ → ℕ → ℕ
looked_before left next worker = if nat_lt worker next then looked_if left worker else 0

-- each worker is looked at in the first round
abbrev pub looked_so_far : ℕ → ℕ → ℕ
looked_so_far rounds worker = if nat_lt 0 rounds then 1 else 0
