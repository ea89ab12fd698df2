-- One step of a replica: what each call answers, and what it leaves.
use Rattle.std.specs.Prelude.{◌≡◌, ℕ, ◌<◌, List, [], ◌++◌, length, replicate, Bool, true, false, Option, None, Some, Result, Ok, Err}
use Rattle.std.specs.Prelude.{◌==◌, ◌||◌, ◌&&◌, not, nat_lt, nat_le, if◌then◌else◌, IsOkAnd, ◌⊎◌}
use Rattle.std.specs.Cmp.Lexicographic.{pointwise}
use Rattle.std.specs.List.{list_all, AllByRecursion}
use Rattle.rows.specs.declared.commit.Commit.{Commit}
use Rattle.rows.specs.declared.entry.Entry.{Entry}
use Rattle.rows.specs.declared.kind.Kind.{Kind}
use Rattle.rows.specs.Shape.{shape_of}
use Rattle.rows.specs.Commits.{apply_commits}
use Rattle.rows.specs.Entries.{table_of}
use Rattle.rows.specs.Tables.{Tables, opening, shape_in}
use Rattle.update_log.specs.declared.frame.Frame.{Frame}
use Rattle.intake.specs.declared.taken.Taken.{Taken}
use Rattle.intake.specs.declared.taken.Taken.TheVariants as takens
use Rattle.intake.specs.Kept.{frames_between}
use Rattle.intake.specs.State.{Arrivals}
use Rattle.intake.specs.Steps.{no_arrivals as none_came, taken, dropped, gained}
use Rattle.ordering.specs.Merging.{AreMarked, IsMerge, frames_in}
use Rattle.wire.specs.declared.datagram.Datagram.{Datagram}
use Rattle.wire.specs.declared.datagram.Datagram.TheVariants as datagrams
use Rattle.wire.specs.declared.faults.WireFault.{WireFault}
use Rattle.wire.specs.declared.head.Head.{Head}
use Rattle.wire.specs.declared.out.Out.{Out}
use Rattle.wire.specs.Reading.{reading}
use Rattle.dispatcher.specs.declared.faults.AskFault.{AskFault}
use Rattle.dispatcher.specs.declared.faults.DumpFault.{DumpFault}
use Rattle.dispatcher.specs.declared.faults.DumpFault.TheVariants as dumps
use Rattle.dispatcher.specs.declared.faults.OpenFault.{OpenFault}
use Rattle.queries.specs.declared.plan.Plan.{Plan}
use Rattle.dispatcher.specs.declared.outcome.Got.{Got}
use Rattle.dispatcher.specs.declared.outcome.Got.TheVariants as got
use Rattle.dispatcher.specs.declared.outcome.Run.{Run}
use Rattle.dispatcher.specs.declared.outcome.Run.TheVariants as runs
use Rattle.queries.specs.Checking.{checked}
use Rattle.dispatcher.specs.State.{Replica, Batch, Fetched, no_pieces, Protocol, protocol_of, with_protocol}
use Rattle.dispatcher.specs.Images.{piece_frame, image_commits}
use Rattle.dispatcher.specs.Protocol.{opens_query, asks_version, renews_version, pull_for, want_for, is_own, fetched_by, takes_head}
use Rattle.dispatcher.specs.Protocol.{by_image, bases_at, bases_for, first_version, first_counts, fetched_for, wants_piece, pieces_after}
use Rattle.dispatcher.specs.Protocol.{lack_at, readiness, fetched_in}
use Rattle.dispatcher.specs.Protocol.{Readiness, Broken, NoBatch, WaitsForHead, WaitsForPiece, WaitsForFrame, Ready}
use Rattle.dispatcher.specs.Report.{report_of}
use Rattle.dispatcher.specs.TableText.{names_of, table_text}

-- a new replica, with the tables of this schema and no rows
abbrev pub started_replica : List (List ℕ × List Kind) → ℕ → ℕ → ℕ → Replica
started_replica schema workers number boot = record {
  names = names_of schema;
  shape = shape_of schema;
  workers = workers;
  number = number;
  boot = boot;
  request = 0;
  arrivals = none_came workers;
  applied = replicate workers 0;
  pieces = no_pieces 0;
  tables = opening (shape_of schema);
  version = 0;
  waiting = [];
  batch = None;
  broken = false;
}

-- what a step of its protocol answers, and the replica after it; or the fault
abbrev pub stepped : {Answer Fault : Type 0} → Replica → Result (Answer × Protocol) Fault → Result (Answer × Replica) Fault
stepped r (Ok step) = Ok (step.0, with_protocol r step.1)
stepped r (Err fault) = Err fault

-- opening a query: how many queries wait afterwards, and the replica after it; or the first fault
abbrev pub opened : Replica → Plan → Result (ℕ × Replica) OpenFault
opened r plan = stepped r (opens_query (protocol_of r) plan (checked (shape_in r.tables) plan))

-- asking for a version: the Ask and the replica after it; or the first fault
abbrev pub asked : Replica → Result (Out × Replica) AskFault
asked r = stepped r (asks_version (protocol_of r))

-- asking for another version in place of the one that was fetched: the Ask and the replica after it; or the first fault
abbrev pub renewed : Replica → Result (Out × Replica) AskFault
renewed r = stepped r (renews_version (protocol_of r))

-- the answer to a frame, by the intake's answer
abbrev pub got_of : Taken → Got
got_of takens.Repeat = got.Repeat
got_of takens.Ahead = got.Ahead
got_of takens.Memory = got.Memory
got_of takens.Stored = got.Stored

-- whether the table of each of these entries exists
abbrev pub have_tables : Replica → List Entry → Bool
have_tables r entries = list_all (λ entry. nat_lt (table_of entry) (length r.tables)) entries

-- what its intake makes of a frame. Where the batch goes by image, the window is counted from its bases on
abbrev pub frame_taken : Replica → Frame → Taken × List Arrivals
frame_taken r frame = taken r.arrivals (bases_for r.version (fetched_for r.batch)) frame

-- a frame arrives: it goes to the intake if its worker exists and the table of each of its entries does
abbrev pub frame_comes : Replica → Frame → Got × Replica
frame_comes r frame =
    if not (nat_lt frame.worker r.workers) || not (have_tables r frame.entries) then (got.Ignored, r) else
    (got_of (frame_taken r frame).0, record r { arrivals = (frame_taken r frame).1 })

-- a piece arrives, as a frame: it is taken if the batch goes by its base and wants its number, and the table of each of its entries
-- exists
abbrev pub piece_comes : Replica → Frame → Got × Replica
piece_comes r piece =
    if not (wants_piece r.version (fetched_for r.batch) piece.commit piece.seq) || not (have_tables r piece.entries)
    then (got.Ignored, r) else (
      got_of (taken r.pieces.arrivals [] piece).0,
      record r { pieces = record r.pieces { arrivals = (taken r.pieces.arrivals [] piece).1 } },
    )

-- what its protocol made of a Head, and the replica after it
abbrev pub headed : Replica → Head → Got × Protocol → Got × Replica
headed r head step = (step.0, record (with_protocol r step.1) { pieces = pieces_after step.0 head.base r.pieces })

-- whether a Head has a count for each worker, and goes on from what the replica has applied: what it would catch up from does, and the
-- Head's version and counts from there
abbrev pub goes_on : Replica → Head → Bool
goes_on r head =
    (length head.counts == r.workers) && nat_le (first_version r.version (fetched_by head)) head.version
    && pointwise nat_le r.applied (first_counts r.version r.applied (fetched_by head))
    && pointwise nat_le (first_counts r.version r.applied (fetched_by head)) head.counts

-- a Head of the replica's own number, boot and request arrives
abbrev pub own_head_comes : Replica → Head → Got × Replica
own_head_comes r head = if goes_on r head then headed r head (takes_head (protocol_of r) head r.batch) else (got.Ignored, r)

-- a datagram arrives
abbrev pub datagram_comes : Replica → Result Datagram WireFault → Got × Replica
datagram_comes r (Ok (datagrams.Frame worker seq commit last entries)) =
    frame_comes r (record { worker = worker; seq = seq; commit = commit; last = last; entries = entries })
datagram_comes r (Ok (datagrams.Head head)) = if is_own (protocol_of r) head then own_head_comes r head else (got.Ignored, r)
datagram_comes r (Ok (datagrams.Piece base number last entries)) = piece_comes r (piece_frame base number last entries)
datagram_comes r other = (got.Ignored, r)

-- bytes arrive: the answer, and the replica after them. Being out of memory aside.
abbrev pub received : Replica → List ℕ → Got × Replica
received r bytes = if r.broken then (got.Broken, r) else datagram_comes r (reading bytes)

-- what the arrival of bytes, of a frame or of a piece may answer and leave: what is expected; or `Memory`, if it would be stored, and
-- nothing has changed
abbrev pub MayTake : Replica → Got × Replica → Got → Replica → Type 0
MayTake old comes answer new = ((answer ≡ got.Memory) × (new ≡ old) × (comes.0 ≡ got.Stored)) ⊎ (comes ≡ (answer, new))

-- the replica after it has broken
abbrev pub broken_of : Replica → Replica
broken_of r = record r { pieces = no_pieces r.pieces.base; tables = []; broken = true }

-- what it catches up from: where it goes by image, tables without rows to which the pieces that came are applied; else its own, and no
-- piece
abbrev pub first_tables : Replica → Fetched → Tables
first_tables r fetched = if by_image r.version fetched then opening r.shape else r.tables

abbrev pub first_pieces : Replica → Fetched → List Frame
first_pieces r fetched = if by_image r.version fetched then frames_between r.pieces.arrivals 0 0 fetched.pieces else []

-- what came holds exactly these commits, from where it catches up to the fetched version; of the pieces that it goes by the last alone
-- is marked as such
pub record HoldNext (r : Replica) (fetched : Fetched) (commits : List Commit) : Type 0 where
  pub marked : AreMarked (first_pieces r fetched)
  pub merged : IsMerge (frames_in r.arrivals (first_counts r.version r.applied fetched) fetched.counts) (first_version r.version fetched)
      fetched.version commits

-- the image that it goes by, if it does, and these commits behind it
abbrev pub to_apply : Replica → Fetched → List Commit → List Commit
to_apply r fetched commits = image_commits (first_pieces r fetched) ++ commits

-- the replica with these tables, at the fetched version: the frames that are applied now are dropped, those that an image stands for
-- are known, and its pieces are forgotten
abbrev pub at_fetched : Replica → Fetched → Tables → Replica
at_fetched r fetched tables = record r {
  arrivals = dropped (gained r.arrivals (bases_at r.version fetched)) fetched.counts;
  applied = fetched.counts;
  pieces = no_pieces 0;
  tables = tables;
  version = fetched.version;
}

-- each query of a batch, if there is one, fits the columns of these tables
abbrev pub BatchFits : Tables → Option Batch → Type 0
BatchFits tables None = Unit {0}
BatchFits tables (Some batch) = AllByRecursion (λ plan. checked (shape_in tables) plan ≡ Ok tt) batch.plans

-- the replica after it has caught up with the fetched version, before its batch is answered: the commits that came are applied, and
-- the batch's queries fit the columns that there are then
pub record CaughtUp (old : Replica) (fetched : Fetched) (new : Replica) : Type 0 where
  pub commits : List Commit
  pub held : HoldNext old fetched commits
  pub applied : IsOkAnd (apply_commits (first_tables old fetched) (to_apply old fetched commits))
      (λ tables. new ≡ at_fetched old fetched tables)
  pub fits : BatchFits new.tables old.batch

-- it cannot catch up: what came holds no commits that can be applied so
abbrev pub CannotCatchUp : Replica → Fetched → Type 0
CannotCatchUp old fetched = (new : Replica) → CaughtUp old fetched new → ⊥

-- the end of a batch for which nothing is missing: its report; or `Inconsistent`, if the replica cannot catch up
abbrev pub Ends : Replica → List Plan → Fetched → Run → Replica → Type 0
Ends old plans fetched answer new =
    ((after : Replica) × CaughtUp old fetched after
    × (answer ≡ runs.Answered (report_of after.tables after.version plans)) × (new ≡ record after { batch = None }))
    ⊎ (CannotCatchUp old fetched × (answer ≡ runs.Inconsistent) × (new ≡ broken_of old))

-- a run, by what it finds
abbrev pub RunsAs : Readiness → Replica → Run → Replica → Type 0
RunsAs Broken old answer new = (answer ≡ runs.Broken) × (new ≡ old)
RunsAs NoBatch old answer new = (answer ≡ runs.NoBatch) × (new ≡ old)
RunsAs WaitsForHead old answer new = (answer ≡ runs.WaitingHead) × (new ≡ old)
RunsAs (WaitsForPiece base number) old answer new =
    (answer ≡ runs.WaitingPiece number (pull_for old.number base number)) × (new ≡ old)
RunsAs (WaitsForFrame worker seq) old answer new = (answer ≡ runs.Waiting worker seq (want_for old.number worker seq)) × (new ≡ old)
RunsAs (Ready plans fetched) old answer new = Ends old plans fetched answer new

-- what a run of a replica finds
abbrev pub readiness_of : Replica → Readiness
readiness_of r = readiness r.broken r.batch (lack_at r.version r.pieces r.arrivals)

-- what a run may answer and leave when it is out of memory, which happens only if a version was fetched and nothing is
-- missing: `Memory`, with the tables at the old or at the fetched version; or `Broken`, if there was something to apply
abbrev pub RunsOutOfMemory : Replica → Run → Replica → Type 0
RunsOutOfMemory old answer new =
    (fetched : Fetched) × (fetched_in (readiness_of old) ≡ Some fetched)
    × (((answer ≡ runs.Memory) × ((new ≡ old) ⊎ CaughtUp old fetched new)) ⊎
    ((answer ≡ runs.Broken) × (new ≡ broken_of old) × (old.version < fetched.version)))

-- what a run may answer and leave: what it does by what it finds, unless it is out of memory
abbrev pub MayRun : Replica → Run → Replica → Type 0
MayRun old answer new = RunsAs (readiness_of old) old answer new ⊎ RunsOutOfMemory old answer new

-- a dump: the text of its tables at its version, or the fault. Being out of memory aside.
abbrev pub dumped : Replica → Result (List ℕ) DumpFault
dumped r = if r.broken then Err dumps.Broken else Ok (table_text r.names r.version r.tables)
