-- Known frames: the seqs of a worker's frames that have come. Only membership counts; they stand in rising order, so that
-- equal sets are equal lists.
use Rattle.std.specs.Prelude.{ℕ, zero, suc, ◌+◌, ◌-◌, ◌^◌, List, ◌++◌, length, Bool, ◌==◌, ◌||◌, nat_le, if◌then◌else◌}
use Rattle.std.specs.List.{list_any, filter, range_with_len}
use Rattle.std.specs.Ordering.{nat_cmp}
use Rattle.std.specs.BTreeSet.{insert_key}
use Rattle.rows.specs.Limits.{frame_window}

-- whether the frame of that seq is known
abbrev pub is_known : List ℕ → ℕ → Bool
is_known known seq = list_any (λ other. other == seq) known

-- the known seqs with one more
abbrev pub with_seq : List ℕ → ℕ → List ℕ
with_seq known seq = insert_key nat_cmp known seq

-- the least seq from `seq` on that is not known, of this many at the most
abbrev pub missing_from : ℕ → ℕ → List ℕ → ℕ
missing_from zero seq known = seq
missing_from (suc count) seq known = if is_known known seq then missing_from count (seq + 1) known else seq

-- the least seq from `base` on that is not known
abbrev pub first_missing_from : List ℕ → ℕ → ℕ
first_missing_from known base = missing_from (length known) base known

-- the least seq that is not known
abbrev pub first_missing : List ℕ → ℕ
first_missing known = first_missing_from known 0

-- whether a seq is too far ahead to be kept, with a base: no stream has the greatest number, and the window is 4096 seqs from
-- the first that is missing at or above the base
abbrev pub is_ahead : List ℕ → ℕ → ℕ → Bool
is_ahead known base seq = (seq == 2 ^ 64 - 1) || nat_le (first_missing_from known base + frame_window) seq

-- the known seqs, and every seq below a base
abbrev pub with_below : List ℕ → ℕ → List ℕ
with_below known base = range_with_len 0 base ++ filter (λ seq. nat_le base seq) known
