-- Laws of arrivals: what keeps them of the streams of one list of commits, and which frames are kept then; which stay known
-- and kept as frames come and are dropped; and which seq is the first that is missing.
use Rattle.std.specs.Prelude.{◌≡◌, ◌↔◌, ℕ, ◌-◌, ◌<◌, ◌≤◌, List, length, ◌++◌, take, drop, true, false, ◌||◌, nat_lt, Some, None, slice_get}
use Rattle.std.specs.Prelude.{slice_index}
use Rattle.rows.specs.declared.commit.Commit.{Commit}
use Rattle.update_log.specs.declared.frame.Frame.{Frame}
use Rattle.update_log.specs.Streams.{stream_of}
use Rattle.intake.specs.Known.{is_known, first_missing_from}
use Rattle.intake.specs.State.{Arrivals, arrivals_of, known_of, frame_of}
use Rattle.intake.specs.Steps.{no_arrivals, taken, lacking, dropped, gained, released}
use Rattle.intake.specs.Kept.{frames_between, AreKept, AreKeptFrom}
use Rattle.intake.specs.Streams.{IsFrom, AreFrom}

-- if nothing has come, all of it is of any list
abbrev pub NothingIsFrom : Type 0
NothingIsFrom = (commits : List Commit) (workers : ℕ) → AreFrom commits (no_arrivals workers)

-- it stays of the list as the list goes on
abbrev pub CommitsKeepFrom : Type 0
CommitsKeepFrom = (commits more : List Commit) (all : List Arrivals) → AreFrom commits all → AreFrom (commits ++ more) all

-- and if a frame of the list comes
abbrev pub FramesKeepFrom : Type 0
FramesKeepFrom =
    (commits : List Commit) (all : List Arrivals) (bases : List ℕ) (frame : Frame)
    → slice_get (stream_of commits frame.worker) frame.seq ≡ Some frame → AreFrom commits all → AreFrom commits (taken all bases frame).1

-- and if frames are dropped
abbrev pub DropsKeepFrom : Type 0
DropsKeepFrom = (commits : List Commit) (all : List Arrivals) (counts : List ℕ) → AreFrom commits all → AreFrom commits (dropped all counts)

-- and if every frame below some bases is gained, none of which is past its stream's end
abbrev pub GainsKeepFrom : Type 0
GainsKeepFrom =
    (commits : List Commit) (all : List Arrivals) (bases : List ℕ)
    → ((worker : ℕ) → slice_index bases worker ≤ length (stream_of commits worker)) → AreFrom commits all
    → AreFrom commits (gained all bases)

-- frames that are kept one after the other are those of the stream
abbrev pub KeptAreOfStream : Type 0
KeptAreOfStream =
    (commits : List Commit) (all : List Arrivals) (worker low high : ℕ) → AreFrom commits all → AreKept all worker low high
    → frames_between all worker low high ≡ take (high - low) (drop low (stream_of commits worker))

-- ---- one worker, whose frames are any list

-- if nothing has come of it, that is of any list
abbrev pub NothingIsOf : Type 0
NothingIsOf = (frames : List Frame) (workers worker : ℕ) → IsFrom frames (arrivals_of (no_arrivals workers) worker)

-- it stays of the list if a frame of the list comes
abbrev pub FramesKeepOf : Type 0
FramesKeepOf =
    (frames : List Frame) (all : List Arrivals) (bases : List ℕ) (frame : Frame)
    → slice_get frames frame.seq ≡ Some frame → IsFrom frames (arrivals_of all frame.worker)
    → IsFrom frames (arrivals_of (taken all bases frame).1 frame.worker)

-- frames that are kept one after the other are those of the list
abbrev pub KeptAreOf : Type 0
KeptAreOf =
    (frames : List Frame) (all : List Arrivals) (worker low high : ℕ) → IsFrom frames (arrivals_of all worker)
    → AreKept all worker low high → frames_between all worker low high ≡ take (high - low) (drop low frames)

-- ---- what is known, and kept

-- there are as many workers if a frame comes
abbrev pub FramesLeaveWorkers : Type 0
FramesLeaveWorkers = (all : List Arrivals) (bases : List ℕ) (frame : Frame) → length (taken all bases frame).1 ≡ length all

-- and if frames are dropped
abbrev pub DropsLeaveWorkers : Type 0
DropsLeaveWorkers = (all : List Arrivals) (counts : List ℕ) → length (dropped all counts) ≡ length all

-- and if frames are gained
abbrev pub GainsLeaveWorkers : Type 0
GainsLeaveWorkers = (all : List Arrivals) (bases : List ℕ) → length (gained all bases) ≡ length all

-- what is known stays known if a frame comes
abbrev pub FramesStayKnown : Type 0
FramesStayKnown =
    (all : List Arrivals) (bases : List ℕ) (frame : Frame) (worker seq : ℕ) → is_known (known_of all worker) seq ≡ true
    → is_known (known_of (taken all bases frame).1 worker) seq ≡ true

-- and nothing else is known if frames are dropped
abbrev pub DropsLeaveKnown : Type 0
DropsLeaveKnown = (all : List Arrivals) (counts : List ℕ) (worker : ℕ) → known_of (dropped all counts) worker ≡ known_of all worker

-- where frames are gained, just those below their worker's base are known beside those that were
abbrev pub GainsAreKnown : Type 0
GainsAreKnown =
    (all : List Arrivals) (bases : List ℕ) (worker seq : ℕ) → worker < length all
    → is_known (known_of (gained all bases) worker) seq ≡ (nat_lt seq (slice_index bases worker) || is_known (known_of all worker) seq)

-- and the same frames are kept
abbrev pub GainsLeaveKept : Type 0
GainsLeaveKept = (all : List Arrivals) (bases : List ℕ) (worker seq : ℕ) → frame_of (gained all bases) worker seq ≡ frame_of all worker seq

-- if each known frame from its worker's low on is kept, so it is once a frame has come
abbrev pub FramesStayKept : Type 0
FramesStayKept =
    (all : List Arrivals) (lows bases : List ℕ) (frame : Frame) → AreKeptFrom all lows → AreKeptFrom (taken all bases frame).1 lows

-- and, from the counts on, once those below are dropped
abbrev pub DropsStayKept : Type 0
DropsStayKept =
    (all : List Arrivals) (lows counts : List ℕ) → ((worker : ℕ) → slice_index lows worker ≤ slice_index counts worker)
    → AreKeptFrom all lows → AreKeptFrom (dropped all counts) counts

-- where a frame is handed out, all others that are kept stay so
abbrev pub ReleasesLeaveOthers : Type 0
ReleasesLeaveOthers =
    (all : List Arrivals) (worker seq other : ℕ) → (other ≡ seq → ⊥) → frame_of (released all worker seq) worker other
    ≡ frame_of all worker other

-- and there are as many workers
abbrev pub ReleasesLeaveWorkers : Type 0
ReleasesLeaveWorkers = (all : List Arrivals) (worker seq : ℕ) → length (released all worker seq) ≡ length all

-- a frame that is lacking is of a worker that is there
abbrev pub LackingIsOfWorker : Type 0
LackingIsOfWorker =
    (all : List Arrivals) (bases counts : List ℕ) (missing : ℕ × ℕ) → lacking all bases counts ≡ Some missing → missing.0 < length all

-- ---- what is missing

-- this seq is the least from the base on that is not known
pub record IsLeastFrom (known : List ℕ) (base seq : ℕ) : Type 0 where
  pub up : base ≤ seq
  pub unknown : is_known known seq ≡ false
  pub lower_known : (other : ℕ) → base ≤ other → other < seq → is_known known other ≡ true

-- the first seq that is missing is that
abbrev pub FirstMissingIsLeast : Type 0
FirstMissingIsLeast = (known : List ℕ) (base : ℕ) → IsLeastFrom known base (first_missing_from known base)

-- a worker lacks no frame from its base to before its count: each is known
abbrev pub IsComplete : List Arrivals → List ℕ → List ℕ → ℕ → Type 0
IsComplete all bases counts worker =
    (seq : ℕ) → slice_index bases worker ≤ seq → seq < slice_index counts worker → is_known (known_of all worker) seq ≡ true

-- the least worker that lacks a frame from its base to before its count, with the least such seq
pub record IsLeastLacking (all : List Arrivals) (bases counts : List ℕ) (missing : ℕ × ℕ) : Type 0 where
  pub there : missing.0 < length all
  pub below : missing.1 < slice_index counts missing.0
  pub least : IsLeastFrom (known_of all missing.0) (slice_index bases missing.0) missing.1
  pub lesser_complete : (worker : ℕ) → worker < missing.0 → IsComplete all bases counts worker

-- the frame that is named, if one is lacking, is that
abbrev pub LackingIsLeast : Type 0
LackingIsLeast =
    (all : List Arrivals) (bases counts : List ℕ) (missing : ℕ × ℕ) → lacking all bases counts ≡ Some missing
    → IsLeastLacking all bases counts missing

-- and none is named exactly if no worker that is there lacks one
abbrev pub NoneLackingIsComplete : Type 0
NoneLackingIsComplete =
    (all : List Arrivals) (bases counts : List ℕ)
    → (lacking all bases counts ≡ None) ↔ ((worker : ℕ) → worker < length all → IsComplete all bases counts worker)
