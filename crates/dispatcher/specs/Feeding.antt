-- A replica that is fed from a list of commits: the list is legal, and everything that the replica received is part of it. The
-- laws say which calls keep a replica fed, and what its runs answer.
use Rattle.std.specs.Prelude.{◌≡◌, ℕ, ◌<◌, ◌≤◌, List, [], ◌++◌, length, Bool, true, false, None, Some, Result, Ok, slice_get, slice_index}
use Rattle.std.specs.List.{AllByRecursion}
use Rattle.rows.specs.declared.commit.Commit.{Commit}
use Rattle.rows.specs.declared.entry.Entry.{Entry}
use Rattle.rows.specs.declared.kind.Kind.{Kind}
use Rattle.rows.specs.ImageLaws.{AreSpelled}
use Rattle.rows.specs.Shape.{Shape, shape_of}
use Rattle.rows.specs.Commits.{IsLegal, tables_after}
use Rattle.rows.specs.Tables.{shape_in}
use Rattle.update_log.specs.declared.frame.Frame.{Frame}
use Rattle.update_log.specs.Images.{pieces_at}
use Rattle.update_log.specs.Streams.{stream_of}
use Rattle.intake.specs.Known.{is_known}
use Rattle.intake.specs.State.{arrivals_of, known_of}
use Rattle.intake.specs.Steps.{taken}
use Rattle.intake.specs.Kept.{AreKeptFrom}
use Rattle.intake.specs.Streams.{IsFrom, AreFrom}
use Rattle.ordering.specs.Cutting.{AreFrameCounts}
use Rattle.wire.specs.declared.datagram.Datagram.{Datagram}
use Rattle.wire.specs.declared.datagram.Datagram.TheVariants as datagrams
use Rattle.wire.specs.declared.faults.WireFault.{WireFault}
use Rattle.wire.specs.declared.head.Head.{Head}
use Rattle.wire.specs.declared.out.Out.{Out}
use Rattle.wire.specs.Reading.{reading}
use Rattle.wire.specs.Spelling.{datagram_of_frame}
use Rattle.dispatcher.specs.declared.outcome.Run.{Run}
use Rattle.dispatcher.specs.declared.outcome.Run.TheVariants as runs
use Rattle.queries.specs.declared.plan.Plan.{Plan}
use Rattle.queries.specs.Checking.{checked}
use Rattle.dispatcher.specs.State.{Replica, Batch, Fetched, Pieces}
use Rattle.dispatcher.specs.Images.{piece_frame, frames_of_base}
use Rattle.dispatcher.specs.Report.{report_of}
use Rattle.dispatcher.specs.TableText.{table_text}
use Rattle.dispatcher.specs.Protocol.{by_image, fetched_for, wants_piece, fetched_in}
use Rattle.dispatcher.specs.Steps.{started_replica, received, got_of, frame_taken, goes_on, opened, asked, renewed, at_fetched}
use Rattle.dispatcher.specs.Steps.{readiness_of, RunsAs, MayRun, dumped}

-- what a replica fetched at its version, where it keeps pieces of one base: the fetched version is one of the list, with each worker's
-- frame count at it and at its base, and with as many pieces as the image at the base has; where the batch goes by that image, the
-- pieces are of it
pub record IsFetchedFrom (shape : Shape) (commits : List Commit) (version workers pieces_base : ℕ) (fetched : Fetched) : Type 0 where
  pub above : version ≤ fetched.version
  pub base_within : fetched.base ≤ fetched.version
  pub below : fetched.version ≤ length commits
  pub counted : length fetched.counts ≡ workers
  pub counts_are : AreFrameCounts commits fetched.version fetched.counts
  pub lows_counted : length fetched.lows ≡ workers
  pub lows_are : AreFrameCounts commits fetched.base fetched.lows
  pub pieces_are : fetched.pieces ≡ length (pieces_at shape commits fetched.base)
  pub of_base : by_image version fetched ≡ true → pieces_base ≡ fetched.base

-- the pieces that came are those of the image at their base, which is of the list, and each that is known is kept
pub record ArePiecesFrom (shape : Shape) (commits : List Commit) (pieces : Pieces) : Type 0 where
  pub below : pieces.base ≤ length commits
  pub one : length pieces.arrivals ≡ 1
  pub are : IsFrom (frames_of_base shape commits pieces.base) (arrivals_of pieces.arrivals 0)
  pub kept : AreKeptFrom pieces.arrivals []

-- these queries fit the columns that there are after the first commits of a list, up to a version
abbrev pub FitAt : Shape → List Commit → ℕ → List Plan → Type 0
FitAt shape commits version plans =
    AllByRecursion (λ plan. checked (shape_in (tables_after shape commits version)) plan ≡ Ok tt) plans

-- a replica is fed from a legal list: its frames are of the list's streams and its pieces of an image of it, its tables are those of
-- the list at its version, and what it fetched is of the list. Its queries fit those tables
pub record IsFedFrom (shape : Shape) (commits : List Commit) (r : Replica) : Type 0 where
  pub shape_is : r.shape ≡ shape
  pub legal : IsLegal shape r.workers commits
  pub spelled : AreSpelled commits
  -- the received frames of each worker are those of its stream
  pub workers_are : length r.arrivals ≡ r.workers
  pub frames_are : AreFrom commits r.arrivals
  -- the applied frames are those of the commits up to its version, and each is known
  pub counted : length r.applied ≡ r.workers
  pub applied_are : AreFrameCounts commits r.version r.applied
  pub applied_known : (worker seq : ℕ) → seq < slice_index r.applied worker → is_known (known_of r.arrivals worker) seq ≡ true
  -- each known frame that is not applied is kept
  pub others_kept : AreKeptFrom r.arrivals r.applied
  pub below : r.version ≤ length commits
  pub tables_are : r.broken ≡ false → r.tables ≡ tables_after shape commits r.version
  pub pieces_are : ArePiecesFrom shape commits r.pieces
  pub fetched_is : (fetched : Fetched) → fetched_for r.batch ≡ Some fetched
      → IsFetchedFrom shape commits r.version r.workers r.pieces.base fetched
  pub waiting_fit : FitAt shape commits r.version r.waiting
  pub batch_fit : (batch : Batch) → r.batch ≡ Some batch → FitAt shape commits r.version batch.plans

-- a Head is true of a list: it counts the frames at a version of the list and at a base, and the pieces of the image at the base
pub record IsTrueHead (shape : Shape) (workers : ℕ) (commits : List Commit) (head : Head) : Type 0 where
  pub below : head.version ≤ length commits
  pub base_within : head.base ≤ head.version
  pub counted : length head.counts ≡ workers
  pub counts_are : AreFrameCounts commits head.version head.counts
  pub lows_counted : length head.lows ≡ workers
  pub lows_are : AreFrameCounts commits head.base head.lows
  pub pieces_are : head.pieces ≡ length (pieces_at shape commits head.base)

-- a datagram is true of the list of a primary with so many workers: a Frame is one of the list's streams, a Piece is one of the image
-- at a version of the list, and a Head is true of it. What is ignored says nothing of the list: other datagrams, and bytes that are
-- none
abbrev pub Tells : Shape → ℕ → List Commit → Result Datagram WireFault → Type 0
Tells shape workers commits (Ok (datagrams.Frame worker seq commit last entries)) =
    slice_get (stream_of commits worker) seq ≡ Some (record { worker = worker; seq = seq; commit = commit; last = last; entries = entries })
Tells shape workers commits (Ok (datagrams.Head head)) = IsTrueHead shape workers commits head
Tells shape workers commits (Ok (datagrams.Piece base number last entries)) =
    (base ≤ length commits) × (slice_get (frames_of_base shape commits base) number ≡ Some (piece_frame base number last entries))
Tells shape workers commits other = Unit {0}

-- ---- what keeps it fed

-- a fresh replica is fed from every legal list whose entries have spellings
abbrev pub FreshIsFed : Type 0
FreshIsFed =
    (schema : List (List ℕ × List Kind)) (commits : List Commit) (workers number boot : ℕ) → IsLegal (shape_of schema) workers commits
    → AreSpelled commits → IsFedFrom (shape_of schema) commits (started_replica schema workers number boot)

-- a replica stays fed as the list grows, if it stays legal
abbrev pub CommitsKeepFed : Type 0
CommitsKeepFed =
    (shape : Shape) (commits more : List Commit) (r : Replica) → IsLegal shape r.workers (commits ++ more)
    → AreSpelled (commits ++ more) → IsFedFrom shape commits r → IsFedFrom shape (commits ++ more) r

-- a true datagram stays true as the list grows
abbrev pub TruthStays : Type 0
TruthStays =
    (shape : Shape) (workers : ℕ) (commits more : List Commit) (datagram : Result Datagram WireFault) → Tells shape workers commits datagram
    → Tells shape workers (commits ++ more) datagram

-- true datagrams keep a replica fed
abbrev pub BytesKeepFed : Type 0
BytesKeepFed =
    (shape : Shape) (commits : List Commit) (r : Replica) (bytes : List ℕ) → IsFedFrom shape commits r
    → Tells shape r.workers commits (reading bytes) → IsFedFrom shape commits (received r bytes).1

-- a true Head at or above the replica's version is accepted
abbrev pub TrueHeadGoesOn : Type 0
TrueHeadGoesOn =
    (shape : Shape) (commits : List Commit) (r : Replica) (head : Head) → IsFedFrom shape commits r
    → IsTrueHead shape r.workers commits head → r.version ≤ head.version → goes_on r head ≡ true

-- a true Frame that arrives while the replica is not broken is never ignored: the answer and the arrivals after it are the
-- intake's
abbrev pub TrueFrameIsTaken : Type 0
TrueFrameIsTaken =
    (shape : Shape) (commits : List Commit) (r : Replica) (bytes : List ℕ) (frame : Frame) → IsFedFrom shape commits r
    → r.broken ≡ false → reading bytes ≡ Ok (datagram_of_frame frame) → Tells shape r.workers commits (reading bytes)
    → received r bytes ≡ (got_of (frame_taken r frame).0, record r { arrivals = (frame_taken r frame).1 })

-- and so a true Piece of the image that the batch goes by
abbrev pub TruePieceIsTaken : Type 0
TruePieceIsTaken =
    (shape : Shape) (commits : List Commit) (r : Replica) (bytes : List ℕ) (base number : ℕ) (last : Bool) (entries : List Entry)
    → IsFedFrom shape commits r → r.broken ≡ false → reading bytes ≡ Ok (datagrams.Piece base number last entries)
    → Tells shape r.workers commits (reading bytes) → wants_piece r.version (fetched_for r.batch) base number ≡ true
    → received r bytes ≡ (
      got_of (taken r.pieces.arrivals [] (piece_frame base number last entries)).0,
      record r { pieces = record r.pieces { arrivals = (taken r.pieces.arrivals [] (piece_frame base number last entries)).1 } },
    )

-- opening a query keeps it fed
abbrev pub OpenKeepsFed : Type 0
OpenKeepsFed =
    (shape : Shape) (commits : List Commit) (r : Replica) (plan : Plan) (count : ℕ) (new : Replica) → IsFedFrom shape commits r
    → opened r plan ≡ Ok (count, new) → IsFedFrom shape commits new

-- asking for a version keeps it fed
abbrev pub AskKeepsFed : Type 0
AskKeepsFed =
    (shape : Shape) (commits : List Commit) (r : Replica) (out : Out) (new : Replica) → IsFedFrom shape commits r
    → asked r ≡ Ok (out, new) → IsFedFrom shape commits new

-- asking for another version keeps it fed
abbrev pub RenewKeepsFed : Type 0
RenewKeepsFed =
    (shape : Shape) (commits : List Commit) (r : Replica) (out : Out) (new : Replica) → IsFedFrom shape commits r
    → renewed r ≡ Ok (out, new) → IsFedFrom shape commits new

-- a run keeps it fed, even if it is out of memory
abbrev pub RunKeepsFed : Type 0
RunKeepsFed =
    (shape : Shape) (commits : List Commit) (r : Replica) (answer : Run) (new : Replica) → IsFedFrom shape commits r
    → MayRun r answer new → IsFedFrom shape commits new

-- ---- what its runs answer

-- a run of a fed replica never answers `Inconsistent`
abbrev pub RunIsConsistent : Type 0
RunIsConsistent =
    (shape : Shape) (commits : List Commit) (r : Replica) (answer : Run) (new : Replica) → IsFedFrom shape commits r
    → MayRun r answer new → answer ≡ runs.Inconsistent → ⊥

-- a batch is answered by its report on the tables after exactly the commits up to the fetched version, which is the replica's
-- version afterwards
abbrev pub AnswerIsReport : Type 0
AnswerIsReport =
    (shape : Shape) (commits : List Commit) (r : Replica) (text : List ℕ) (new : Replica) → IsFedFrom shape commits r
    → MayRun r (runs.Answered text) new
    → (batch : Batch) × (fetched : Fetched) × (r.batch ≡ Some batch) × (batch.fetched ≡ Some fetched)
    × (text ≡ report_of (tables_after shape commits fetched.version) fetched.version batch.plans) × (new.version ≡ fetched.version)

-- if a version was fetched and nothing is missing, every run answers the batch, unless it is out of memory
abbrev pub ReadyIsAnswered : Type 0
ReadyIsAnswered =
    (shape : Shape) (commits : List Commit) (r : Replica) (batch : Batch) (fetched : Fetched) (answer : Run) (new : Replica)
    → IsFedFrom shape commits r → r.batch ≡ Some batch → fetched_in (readiness_of r) ≡ Some fetched → RunsAs (readiness_of r) r answer new
    → (answer ≡ runs.Answered (report_of (tables_after shape commits fetched.version) fetched.version batch.plans))
    × (new ≡ record (at_fetched r fetched (tables_after shape commits fetched.version)) { batch = None })

-- ---- what it tells of its tables

-- the dump of a replica that is not broken is the text of the tables after exactly the commits up to its version
abbrev pub DumpIsTables : Type 0
DumpIsTables =
    (shape : Shape) (commits : List Commit) (r : Replica) → IsFedFrom shape commits r → r.broken ≡ false
    → dumped r ≡ Ok (table_text r.names r.version (tables_after shape commits r.version))

-- what a replica is from its start on: its tables' names and the columns with which they began, how many workers there are, its number
-- and its boot
abbrev pub identity_of : Replica → List (List ℕ) × Shape × ℕ × ℕ × ℕ
identity_of r = (r.names, r.shape, r.workers, r.number, r.boot)

-- no call changes that
pub record StepsKeepIdentity : Type 0 where
  pub by_bytes : (r : Replica) (bytes : List ℕ) → identity_of (received r bytes).1 ≡ identity_of r
  pub by_open : (r : Replica) (plan : Plan) (count : ℕ) (new : Replica) → opened r plan ≡ Ok (count, new) → identity_of new ≡ identity_of r
  pub by_ask : (r : Replica) (out : Out) (new : Replica) → asked r ≡ Ok (out, new) → identity_of new ≡ identity_of r
  pub by_renew : (r : Replica) (out : Out) (new : Replica) → renewed r ≡ Ok (out, new) → identity_of new ≡ identity_of r
  pub by_run : (r : Replica) (answer : Run) (new : Replica) → MayRun r answer new → identity_of new ≡ identity_of r

-- ---- what two of them hold

-- two replicas at the same version hold the same tables, even if the list grew in between; a broken replica has no version
abbrev pub VersionTellsTables : Type 0
VersionTellsTables =
    (shape : Shape) (commits more : List Commit) (r other : Replica) → IsFedFrom shape commits r → IsFedFrom shape (commits ++ more) other
    → r.broken ≡ false → other.broken ≡ false → r.version ≡ other.version → r.tables ≡ other.tables
