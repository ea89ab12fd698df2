-- A worker's stream: the frames of its commits, joined in their order, each with its index as its seq.
use Rattle.std.specs.Prelude.{◌≡◌, ℕ, ◌+◌, ◌≤◌, List, [], ◌∷◌, ◌++◌, length, take, Option, None, Some, slice_get, slice_set, unwrap_or}
use Rattle.std.specs.Prelude.{◌==◌, if◌then◌else◌}
use Rattle.std.specs.List.{AllByRecursion}
use Rattle.rows.specs.declared.commit.Commit.{Commit}
use Rattle.update_log.specs.declared.frame.Frame.{Frame}
use Rattle.update_log.specs.declared.span.Span.{Span}
use Rattle.update_log.specs.Frames.{IsSendable, frames_of}
use Rattle.update_log.specs.Inner.Spans.{spans_of, stream_spans}
use Rattle.update_log.specs.State.{StreamsState, Next}

-- the worker's frames of commits that stand after `before` others, the first frame with the seq `first`
abbrev pub stream_from : ℕ → ℕ → ℕ → List Commit → List Frame
stream_from worker before first [] = []
stream_from worker before first (commit ∷ commits) =
    let frames : List Frame = (if commit.worker == worker then frames_of commit (before + 1) first else []) in
    frames ++ stream_from worker (before + 1) (first + length frames) commits

-- the stream of a worker
abbrev pub stream_of : List Commit → ℕ → List Frame
stream_of commits worker = stream_from worker 0 0 commits

-- how many frames of the worker belong to the first `version` commits
abbrev pub frame_count : List Commit → ℕ → ℕ → ℕ
frame_count commits worker version = length (stream_of (take version commits) worker)

-- a frame of commits that are counted from the first on, where so many stand before them, of which the worker has so many frames
abbrev pub shifted : (before frames : ℕ) → Frame → Frame
shifted before frames frame = record frame { seq = frames + frame.seq; commit = before + frame.commit }

-- the stream that is kept of a worker; none if there is no worker of that number
abbrev pub stream_at : List (List Span) → ℕ → List Span
stream_at streams worker = or_none (slice_get streams worker)
  where
    or_none : Option (List Span) → List Span
    or_none None = []
    or_none (Some stream) = stream

-- these are the streams of the commits, by worker: where each frame's entries stand, as many as there are frames; and a
-- datagram spells each frame
pub record AreStreamsOf (streams : List (List Span)) (commits : List Commit) : Type 0 where
  pub each : (worker : ℕ) → stream_at streams worker ≡ stream_spans commits worker
  pub counted : (worker : ℕ) → length (stream_at streams worker) ≡ length (stream_of commits worker)
  pub sendable : (worker : ℕ) → AllByRecursion IsSendable (stream_of commits worker)

-- what a commit of this number adds to its worker's stream
abbrev pub next_frames : Commit → ℕ → Next
next_frames commit number = record { worker = commit.worker; spans = spans_of commit.entries number }

-- the streams with these frames at the end of their worker's
abbrev pub extended : List (List Span) → Next → List (List Span)
extended streams next = slice_set streams next.worker (stream_at streams next.worker ++ next.spans)

-- these frames can be added without memory
abbrev pub HasRoom : StreamsState → Next → Type 0
HasRoom state next = length next.spans ≤ unwrap_or (slice_get state.rooms next.worker) 0
