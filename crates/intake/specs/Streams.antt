-- Arrivals that are of the streams of a list of commits.
use Rattle.std.specs.Prelude.{◌≡◌, ℕ, ◌<◌, List, length, true, Some, slice_get}
use Rattle.rows.specs.declared.commit.Commit.{Commit}
use Rattle.update_log.specs.declared.frame.Frame.{Frame}
use Rattle.update_log.specs.Streams.{stream_of}
use Rattle.intake.specs.Known.{is_known}
use Rattle.intake.specs.State.{Arrivals, arrivals_of, frame_in}

-- what has come of a worker is of this stream: each known seq is that of a frame there, and each kept frame is the one there
pub record IsFrom (stream : List Frame) (arrivals : Arrivals) : Type 0 where
  pub known_are : (seq : ℕ) → is_known arrivals.known seq ≡ true → seq < length stream
  pub kept_are : (seq : ℕ) (frame : Frame) → frame_in arrivals.kept seq ≡ Some frame → slice_get stream seq ≡ Some frame

-- what has come of each worker is of its stream of these commits
abbrev pub AreFrom : List Commit → List Arrivals → Type 0
AreFrom commits all = (worker : ℕ) → IsFrom (stream_of commits worker) (arrivals_of all worker)
