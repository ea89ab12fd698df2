-- The frames of a commit: one for each of its parts.
use Rattle.std.specs.Prelude.{ℕ, ◌+◌, ◌^◌, ◌<◌, ◌≤◌, List, [], ◌∷◌, length, ◌==◌}
use Rattle.std.specs.List.{AllByRecursion}
use Rattle.rows.specs.declared.commit.Commit.{Commit}
use Rattle.rows.specs.declared.entry.Entry.{Entry}
use Rattle.rows.specs.Limits.{datagram_max, workers_max}
use Rattle.rows.specs.Spelling.{HasSpelling}
use Rattle.update_log.specs.declared.frame.Frame.{Frame}
use Rattle.update_log.specs.Parts.{frame_len, parts_of}

-- which frames a datagram spells: the worker is below 16, the commit's number is not 0, there is an entry, each has a
-- spelling, and all fit into 1200 bytes
pub record IsFrame (worker seq commit : ℕ) (entries : List Entry) : Type 0 where
  pub worker_below : worker < workers_max
  pub seq_below : seq < 2 ^ 64
  pub commit_numbered : 0 < commit
  pub commit_below : commit < 2 ^ 64
  pub some : 0 < length entries
  pub spelled : AllByRecursion HasSpelling entries
  pub few : frame_len entries ≤ datagram_max

abbrev pub IsSendable : Frame → Type 0
IsSendable frame = IsFrame frame.worker frame.seq frame.commit frame.entries

-- the frames of these parts of a worker's commit of that number, the first with that seq: the last part's frame is the last
abbrev pub frames_from : ℕ → ℕ → ℕ → List (List Entry) → List Frame
frames_from worker number seq [] = []
frames_from worker number seq (part ∷ parts) =
    record { worker = worker; seq = seq; commit = number; last = length parts == 0; entries = part }
    ∷ frames_from worker number (seq + 1) parts

-- the frames of a commit by its number, the first with that seq
abbrev pub frames_of : Commit → ℕ → ℕ → List Frame
frames_of commit number first_seq = frames_from commit.worker number first_seq (parts_of commit.entries)

-- what a commit, its number and its first seq must be for its frames to be sent: the worker is below 16, the number is not
-- 0, each entry has a spelling, and each seq is below the greatest number of 64 bits
pub record IsCuttable (commit : Commit) (number first_seq : ℕ) : Type 0 where
  pub worker_below : commit.worker < workers_max
  pub numbered : 0 < number
  pub spelled : AllByRecursion HasSpelling commit.entries
  pub seqs_below : first_seq + length (parts_of commit.entries) < 2 ^ 64
