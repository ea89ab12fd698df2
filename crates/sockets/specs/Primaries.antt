-- What a primary's node does while it serves.
use Rattle.std.specs.Prelude.{◌≡◌, ◌==◌, ◌<◌, ◌≤◌, ◌+◌, ◌-◌, if◌then◌else◌, ℕ, List, [], ◌∷◌, length, Bool, None, Some, slice_index}
use Rattle.std.specs.Prelude.{Result, Ok, take, drop, min, ◌++◌}
use Rattle.std.specs.List.{flat_map, range_with_len, sum_by}
use mathlib.Core.List.{IsPrefix}
use Rattle.rows.specs.declared.commit.Commit.{Commit}
use Rattle.rows.specs.declared.kind.Kind.{Kind}
use Rattle.rows.specs.Shape.{shape_of}
use Rattle.update_log.specs.Streams.{frame_count}
use Rattle.primary.specs.Sending.{answers}
use Rattle.desk.specs.Answers.{primary_of, packet_at, IsBaseOf}
use Rattle.wire.specs.declared.datagram.Datagram.{Datagram}
use Rattle.wire.specs.declared.datagram.Datagram.TheVariants.{Head}
use Rattle.wire.specs.declared.faults.WireFault.{WireFault}
use Rattle.wire.specs.declared.out.Out.{Out}
use Rattle.wire.specs.Reading.{reading}
use Rattle.wire.specs.declared.out.To.TheVariants.{Replicas}
use Rattle.sockets.specs.Serving.{Act, Serves, heard_in, sendings_in}
use Rattle.sockets.specs.State.{PrimaryState}
use Rattle.sockets.specs.Traffic.{with_more, ignored_as}
use Rattle.sockets.specs.Asking.{noted}
use Rattle.sockets.specs.declared.traffic.Traffic.{Traffic}
use Rattle.sockets.specs.declared.traffic.Counted.{Counted}
use Rattle.sockets.specs.declared.traffic.Counted.TheVariants.{Ignored, Other}
use Rattle.sockets.specs.declared.asked.Asked.{Asked}

-- a call on the line: it looks for a worker's frame that is not there yet; it lacks the memory to look for a worker's frames; it skips
-- a worker's frames from one seq up to another, which were dropped; a frame is pushed to all replicas; bytes are answered, or are
-- lost for lack of memory
pub data Call : Type 0 where
  Looks : ℕ → ℕ → Call
  Lacks : ℕ → Call
  Skips : (worker from to : ℕ) → Call
  Pushes : ℕ → ℕ → List ℕ → Call
  Answers : List ℕ → List Out → Call
  Loses : List ℕ → Call

-- what is sent of a list of commits is of it: a frame of its streams, or what a primary answers of which just that list is durable, on
-- some base. Frames are skipped up to a worker's count at a base of the list
abbrev pub Tells : List (List ℕ × List Kind) → ℕ → List Commit → Call → Type 0
Tells schema workers list (Looks worker seq) = packet_at list worker seq ≡ None
Tells schema workers list (Lacks worker) = Unit {0}
Tells schema workers list (Skips worker from to) =
    (base : ℕ) × IsBaseOf (shape_of schema) list base × (to ≡ frame_count list worker base) × (from < to)
Tells schema workers list (Pushes worker seq packet) = packet_at list worker seq ≡ Some packet
Tells schema workers list (Answers bytes outs) =
    (base : ℕ) × IsBaseOf (shape_of schema) list base × (outs ≡ answers (primary_of schema workers list base) bytes)
Tells schema workers list (Loses bytes) = Unit {0}

-- a call is about the list that the seat has seen by then, which begins with the one before
abbrev pub Makes : List (List ℕ × List Kind) → ℕ → List Commit → Call → List Commit → Type 0
Makes schema workers old call new = IsPrefix old new × Tells schema workers new call

-- the datagrams that a call is given
abbrev pub hears : Call → List (List ℕ)
hears (Looks worker seq) = []
hears (Lacks worker) = []
hears (Skips worker from to) = []
hears (Pushes worker seq packet) = []
hears (Answers bytes outs) = bytes ∷ []
hears (Loses bytes) = bytes ∷ []

-- the datagrams that are to be sent for a call
abbrev pub says : Call → List Out
says (Looks worker seq) = []
says (Lacks worker) = []
says (Skips worker from to) = []
says (Pushes worker seq packet) = record { to = Replicas; packet = packet } ∷ []
says (Answers bytes outs) = outs
says (Loses bytes) = []

-- the seqs of a worker's frames that were pushed or skipped, in order
abbrev pub seqs_of : ℕ → Call → List ℕ
seqs_of worker (Pushes pusher seq packet) = if pusher == worker then seq ∷ [] else []
seqs_of worker (Skips skipper from to) = if skipper == worker then range_with_len from (to - from) else []
seqs_of worker (Looks looker seq) = []
seqs_of worker (Lacks looker) = []
seqs_of worker (Answers bytes outs) = []
seqs_of worker (Loses bytes) = []

abbrev pub seqs_in : ℕ → List (Act Call) → List ℕ
seqs_in worker acts = flat_map (λ act. seqs_of worker act.call) acts

-- each worker's pushes and skips go on where they had stopped: each seq from its counter before on, up to its counter after, was pushed
-- or skipped, in order
abbrev pub GoesOn : List ℕ → List ℕ → List (Act Call) → Type 0
GoesOn old new acts =
    (worker : ℕ) → worker < length old
    → (count : ℕ) × (slice_index new worker ≡ slice_index old worker + count)
    × (seqs_in worker acts ≡ range_with_len (slice_index old worker) count)

-- the frame counts that a Head tells, if that is what was answered
abbrev pub counts_at : Result Datagram WireFault → List ℕ
counts_at (Ok (Head head)) = head.counts
counts_at other = []

abbrev pub counts_in : List Out → List ℕ
counts_in (out ∷ []) = counts_at (reading out.packet)
counts_in other = []

-- the counters once so many frames of each worker are passed over
abbrev pub passed : List ℕ → List ℕ → List ℕ
passed counters counts =
    let both : ℕ = min (length counters) (length counts) in
    take both counts ++ drop both counters

-- 1 if a frame of the worker was pushed or looked for
abbrev pub looks_of : ℕ → Call → ℕ
looks_of worker (Pushes pusher seq packet) = if pusher == worker then 1 else 0
looks_of worker (Looks looker seq) = if looker == worker then 1 else 0
looks_of worker (Lacks looker) = if looker == worker then 1 else 0
looks_of worker (Skips skipper from to) = 0
looks_of worker (Answers bytes outs) = 0
looks_of worker (Loses bytes) = 0

-- for each worker, frames of it were pushed or looked for at least so many times
abbrev pub HasLooked : List ℕ → (ℕ → ℕ) → List (Act Call) → Type 0
HasLooked counters looked acts =
    (worker : ℕ) → worker < length counters → looked worker ≤ sum_by (λ act. looks_of worker act.call) acts

-- how bytes are counted that were answered so: as ignored, if by nothing
abbrev pub counted_as : List Out → Counted
counted_as [] = Ignored
counted_as (out ∷ outs) = Other

abbrev pub ignored : Call → ℕ
ignored (Answers bytes outs) = ignored_as (counted_as outs)
ignored (Looks worker seq) = 0
ignored (Lacks worker) = 0
ignored (Skips worker from to) = 0
ignored (Pushes worker seq packet) = 0
ignored (Loses bytes) = 0

-- what went through the port after these acts
abbrev pub traffic_after : Traffic → List (Act Call) → Traffic
traffic_after traffic acts =
    with_more traffic (length (heard_in hears acts)) 0 (sum_by (λ act. ignored act.call) acts) (sendings_in acts)

-- what the replicas asked for last after these acts
abbrev pub asked_by : List Asked → Call → List Asked
asked_by asked (Answers bytes outs) = noted asked bytes outs
asked_by asked (Looks worker seq) = asked
asked_by asked (Lacks worker) = asked
asked_by asked (Skips worker from to) = asked
asked_by asked (Pushes worker seq packet) = asked
asked_by asked (Loses bytes) = asked

abbrev pub asked_after : List Asked → List (Act Call) → List Asked
asked_after asked [] = asked
asked_after asked (act ∷ acts) = asked_after (asked_by asked act.call) acts

-- what a primary's node has done: it has done acts by the lists that its seat has seen, with what its port has carried and the node
-- has counted; so many receives have failed, pushes and skips went on, and each worker's frames were looked for so many times or more
pub record DoesPrimary {P : Type 0} (schema : List (List ℕ × List Kind)) (workers : ℕ)
    (is_honest : Bool) (came_at : P → List (List ℕ)) (sent_at : P → List Out) (faults_at : P → ℕ)
    (old new : PrimaryState P) (failed : ℕ) (looked : ℕ → ℕ) : Type 0 where
  pub acts : List (Act Call)
  pub serves : Serves (Makes schema workers) hears says is_honest came_at sent_at faults_at old.port new.port old.seat.list new.seat.list
      acts failed
  pub goes_on : GoesOn old.counters new.counters acts
  pub looks : HasLooked old.counters looked acts
  pub counts : new.traffic ≡ traffic_after old.traffic acts
  pub asks : new.asked ≡ asked_after old.asked acts
  pub seat : new.seat ≡ record old.seat { list = new.seat.list }
  pub as_many : length new.counters ≡ length old.counters
