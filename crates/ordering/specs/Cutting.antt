-- Frames that were cut from a list of commits.
use Rattle.std.specs.Prelude.{◌≡◌, ℕ, ◌-◌, List, take, drop, slice_index}
use Rattle.rows.specs.declared.commit.Commit.{Commit}
use Rattle.update_log.specs.declared.frame.Frame.{Frame}
use Rattle.update_log.specs.Streams.{stream_of, frame_count}

-- the commits after the first `from`, up to the first `to`
abbrev pub commits_between : List Commit → ℕ → ℕ → List Commit
commits_between commits from to = take (to - from) (drop from commits)

-- the frames of a worker's stream that belong to these, found by counting
abbrev pub frames_cut : List Commit → ℕ → ℕ → ℕ → List Frame
frames_cut commits from to worker =
    take (frame_count commits worker to - frame_count commits worker from)
    (drop (frame_count commits worker from) (stream_of commits worker))

-- these are, by worker, how many frames belong to the first `version` commits
abbrev pub AreFrameCounts : List Commit → ℕ → List ℕ → Type 0
AreFrameCounts commits version counts = (worker : ℕ) → slice_index counts worker ≡ frame_count commits worker version
