-- Frames that are kept one after the other: a worker's frames from one seq to before another.
use Rattle.std.specs.Prelude.{◌≡◌, ℕ, zero, suc, ◌+◌, ◌-◌, ◌<◌, ◌≤◌, List, [], ◌++◌, true, IsSome, slice_index}
use Rattle.std.specs.Option.{option_to_list}
use Rattle.update_log.specs.declared.frame.Frame.{Frame}
use Rattle.intake.specs.Known.{is_known}
use Rattle.intake.specs.State.{Arrivals, arrivals_of, known_of, frame_in, frame_of}

-- the kept frames of the seqs from `first` on, this many seqs
abbrev pub frames_at : List (ℕ × Frame) → ℕ → ℕ → List Frame
frames_at kept first zero = []
frames_at kept first (suc count) = option_to_list (frame_in kept first) ++ frames_at kept (first + 1) count

-- the kept frames of a worker from the seq `low` to before `high`
abbrev pub frames_between : List Arrivals → ℕ → ℕ → ℕ → List Frame
frames_between all worker low high = frames_at (arrivals_of all worker).kept low (high - low)

-- and each frame there is kept
abbrev pub AreKept : List Arrivals → ℕ → ℕ → ℕ → Type 0
AreKept all worker low high = (seq : ℕ) → low ≤ seq → seq < high → IsSome (frame_of all worker seq)

-- and each frame of each worker from its low to before its high is kept
abbrev pub AreAllKept : List Arrivals → List ℕ → List ℕ → Type 0
AreAllKept all lows highs = (worker : ℕ) → AreKept all worker (slice_index lows worker) (slice_index highs worker)

-- each known frame of each worker, from its low on, is kept
abbrev pub AreKeptFrom : List Arrivals → List ℕ → Type 0
AreKeptFrom all lows =
    (worker seq : ℕ) → slice_index lows worker ≤ seq → is_known (known_of all worker) seq ≡ true → IsSome (frame_of all worker seq)
