-- What has come of the workers' streams.
use Rattle.std.specs.Prelude.{ℕ, List, [], Option, slice_index_or}
use Rattle.std.specs.Ordering.{nat_cmp}
use Rattle.std.specs.Map.{lookup}
use Rattle.std.specs.BTreeMap.{is_at}
use Rattle.update_log.specs.declared.frame.Frame.{Frame}

-- what has come of one worker's stream
pub record Arrivals : Type 0 where
  -- the seqs of the known frames, in rising order
  pub known : List ℕ
  -- the frames that are kept, each with its seq, in rising seq
  pub kept : List (ℕ × Frame)

-- no frame has come
abbrev pub nothing : Arrivals
nothing = record { known = []; kept = [] }

-- what has come of a worker's stream, of all arrivals by worker; nothing if there is no worker of that number
abbrev pub arrivals_of : List Arrivals → ℕ → Arrivals
arrivals_of all worker = slice_index_or all worker nothing

-- the seqs that are known of a worker
abbrev pub known_of : List Arrivals → ℕ → List ℕ
known_of all worker = (arrivals_of all worker).known

-- the frame of a seq, if it is kept
abbrev pub frame_in : List (ℕ × Frame) → ℕ → Option Frame
frame_in kept seq = lookup (is_at (nat_cmp seq)) kept

-- the frame of a worker's seq, if it is kept
abbrev pub frame_of : List Arrivals → ℕ → ℕ → Option Frame
frame_of all worker seq = frame_in (arrivals_of all worker).kept seq
