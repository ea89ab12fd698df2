-- What a replica does with queries and Heads: its steps as far as they need no frame and no table.
use Rattle.std.specs.Prelude.{ℕ, ◌+◌, List, [], ◌∷◌, ◌++◌, length, Bool, true, false, Option, None, Some, Result, Ok, Err, ◌==◌, ◌&&◌}
use Rattle.std.specs.Prelude.{nat_le, nat_lt, if◌then◌else◌}
use Rattle.rows.specs.Limits.{waiting_queries_max}
use Rattle.wire.specs.declared.datagram.Datagram.TheVariants as datagrams
use Rattle.wire.specs.declared.head.Head.{Head}
use Rattle.wire.specs.declared.out.Out.{Out}
use Rattle.wire.specs.declared.out.To.TheVariants.{Primary}
use Rattle.wire.specs.Spelling.{spelling}
use Rattle.queries.specs.declared.plan.Plan.{Plan}
use Rattle.queries.specs.declared.faults.PlanFault.{PlanFault}
use Rattle.dispatcher.specs.declared.faults.AskFault.{AskFault}
use Rattle.dispatcher.specs.declared.faults.AskFault.TheVariants as asks
use Rattle.dispatcher.specs.declared.faults.OpenFault.{OpenFault}
use Rattle.dispatcher.specs.declared.faults.OpenFault.TheVariants as opens
use Rattle.dispatcher.specs.declared.outcome.Got.{Got}
use Rattle.dispatcher.specs.declared.outcome.Got.TheVariants as got
use Rattle.intake.specs.State.{Arrivals}
use Rattle.intake.specs.Steps.{lacking}
use Rattle.dispatcher.specs.State.{Batch, Fetched, Pieces, no_pieces, Protocol}

-- at its start
abbrev pub started_protocol : ℕ → ℕ → Protocol
started_protocol number boot = record {
  number = number;
  boot = boot;
  request = 0;
  version = 0;
  waiting = [];
  batch = None;
  broken = false;
}

-- opening a query whose plan was checked: how many queries wait afterwards; or the fault
abbrev pub opens_checked : Protocol → Plan → Result (Unit {0}) PlanFault → Result (ℕ × Protocol) OpenFault
opens_checked q plan (Err fault) = Err (opens.BadPlan fault)
opens_checked q plan (Ok fits) = Ok (length q.waiting + 1, record q { waiting = q.waiting ++ plan ∷ [] })

-- the same, or the first fault
abbrev pub opens_query : Protocol → Plan → Result (Unit {0}) PlanFault → Result (ℕ × Protocol) OpenFault
opens_query q plan check =
    if q.broken then Err opens.Broken else
    if nat_le waiting_queries_max (length q.waiting) then Err opens.BatchFull else
    opens_checked q plan check

-- the Ask of a request
abbrev pub ask_for : ℕ → ℕ → ℕ → Out
ask_for number boot request = record { to = Primary; packet = spelling (datagrams.Ask number boot request) }

-- the Want of a worker's frames from a seq on
abbrev pub want_for : ℕ → ℕ → ℕ → Out
want_for number worker from = record { to = Primary; packet = spelling (datagrams.Want number worker from) }

-- the Pull of the pieces of an image from a number on
abbrev pub pull_for : ℕ → ℕ → ℕ → Out
pull_for number base from = record { to = Primary; packet = spelling (datagrams.Pull number base from) }

-- a new batch of all queries that wait; no version is fetched for it yet
abbrev pub with_batch : Protocol → Protocol
with_batch q = record q { request = q.request + 1; waiting = []; batch = Some (record { plans = q.waiting; fetched = None }) }

-- asking for a version, by the batch: the Ask; or the first fault
abbrev pub asks_by : Protocol → Option Batch → Result (Out × Protocol) AskFault
asks_by q None =
    if length q.waiting == 0 then Err asks.Empty else Ok (ask_for q.number q.boot (q.request + 1), with_batch q)
asks_by q (Some batch) = again batch.fetched
  where
    again : Option Fetched → Result (Out × Protocol) AskFault
    again None = Ok (ask_for q.number q.boot q.request, q)
    again (Some fetched) = Err asks.Busy

abbrev pub asks_version : Protocol → Result (Out × Protocol) AskFault
asks_version q = if q.broken then Err asks.Broken else asks_by q q.batch

-- renewing what was fetched for a batch: it is given up, and the Ask of the next request; or the fault
abbrev pub renews_by : Protocol → Option Batch → Result (Out × Protocol) AskFault
renews_by q None = Err asks.Empty
renews_by q (Some batch) = again batch.fetched
  where
    again : Option Fetched → Result (Out × Protocol) AskFault
    again None = Err asks.NoHead
    again (Some fetched) = Ok (
      ask_for q.number q.boot (q.request + 1),
      record q { request = q.request + 1; batch = Some (record { plans = batch.plans; fetched = None }) },
    )

abbrev pub renews_version : Protocol → Result (Out × Protocol) AskFault
renews_version q = if q.broken then Err asks.Broken else renews_by q q.batch

-- whether a Head is for a replica's own number, boot and request
abbrev pub is_own : Protocol → Head → Bool
is_own q head = (head.replica == q.number) && (head.boot == q.boot) && (head.request == q.request)

-- what is fetched by a Head
abbrev pub fetched_by : Head → Fetched
fetched_by head = record { version = head.version; base = head.base; pieces = head.pieces; lows = head.lows; counts = head.counts }

-- such a Head, by the batch: it is accepted if there is one, and nothing was fetched for it
abbrev pub takes_head : Protocol → Head → Option Batch → Got × Protocol
takes_head q head None = (got.Ignored, q)
takes_head q head (Some batch) = unless_fetched batch.fetched
  where
    unless_fetched : Option Fetched → Got × Protocol
    unless_fetched (Some fetched) = (got.Ignored, q)
    unless_fetched None = (
      got.Head head.version,
      record q { batch = Some (record { plans = batch.plans; fetched = Some (fetched_by head) }) },
    )

-- ---- what a batch goes by

-- whether a batch of a replica at this version goes by the image at the base: it does where the base is above the version
abbrev pub by_image : ℕ → Fetched → Bool
by_image version fetched = nat_lt version fetched.base

-- the bases, by worker, from which on the batch needs frames: those that were fetched, where it goes by image, and else none
abbrev pub bases_at : ℕ → Fetched → List ℕ
bases_at version fetched = if by_image version fetched then fetched.lows else []

-- the version from which it catches up, and how many frames of each worker belong to the commits up to that: those of the base, where
-- it goes by image, and else those at which it is
abbrev pub first_version : ℕ → Fetched → ℕ
first_version version fetched = if by_image version fetched then fetched.base else version

abbrev pub first_counts : ℕ → List ℕ → Fetched → List ℕ
first_counts version applied fetched = if by_image version fetched then fetched.lows else applied

-- what was fetched for a batch, if there is one and something was
abbrev pub fetched_for : Option Batch → Option Fetched
fetched_for None = None
fetched_for (Some batch) = batch.fetched

-- the bases of a batch; without one, and before a version is fetched, there are none
abbrev pub bases_for : ℕ → Option Fetched → List ℕ
bases_for version None = []
bases_for version (Some fetched) = bases_at version fetched

-- whether a batch goes by the image at this base, and that has a piece of this number
abbrev pub wants_piece : ℕ → Option Fetched → (base number : ℕ) → Bool
wants_piece version None base number = false
wants_piece version (Some fetched) base number =
    by_image version fetched && (base == fetched.base) && nat_lt number fetched.pieces

-- the pieces that came, once a Head with this base is taken: those of another base are forgotten
abbrev pub pieces_for : ℕ → Pieces → Pieces
pieces_for base pieces = if pieces.base == base then pieces else no_pieces base

-- and once a Head was answered so
abbrev pub pieces_after : Got → ℕ → Pieces → Pieces
pieces_after (got.Head version) base pieces = pieces_for base pieces
pieces_after other base pieces = pieces

-- what a batch lacks: a piece, a frame of a worker, or nothing
pub data Lack : Type 0 where
  Piece : (number : ℕ) → Lack
  Frame : (worker seq : ℕ) → Lack
  Nothing : Lack

-- by the first piece and the first frame that is missing: a piece goes first
abbrev pub lack_of : Option (ℕ × ℕ) → Option (ℕ × ℕ) → Lack
lack_of (Some piece) frame = Piece piece.1
lack_of None (Some frame) = Frame frame.0 frame.1
lack_of None None = Nothing

-- the first piece that is missing of an image that a batch goes by
abbrev pub lacking_piece : ℕ → Pieces → Fetched → Option (ℕ × ℕ)
lacking_piece version pieces fetched =
    if by_image version fetched then lacking pieces.arrivals [] (fetched.pieces ∷ []) else None

-- what a batch lacks, by the version of the replica, the pieces and the frames that came, and what was fetched: a piece of the
-- image that it goes by, or a frame from its worker's base to before its count
abbrev pub lack_at : ℕ → Pieces → List Arrivals → Fetched → Lack
lack_at version pieces arrivals fetched =
    lack_of (lacking_piece version pieces fetched) (lacking arrivals (bases_at version fetched) fetched.counts)

-- what a run finds: the replica is broken; there is no batch; its version is not fetched; this piece of the image is missing; this
-- frame of the worker is; or its queries can be answered at what was fetched for them
pub data Readiness : Type 0 where
  Broken : Readiness
  NoBatch : Readiness
  WaitsForHead : Readiness
  WaitsForPiece : (base number : ℕ) → Readiness
  WaitsForFrame : (worker seq : ℕ) → Readiness
  Ready : List Plan → Fetched → Readiness

-- what a run finds, by whether the replica is broken, by its batch, and by what lacks at what was fetched
abbrev pub readiness : Bool → Option Batch → (Fetched → Lack) → Readiness
readiness true batch lack = Broken
readiness false None lack = NoBatch
readiness false (Some batch) lack = by_fetched batch.fetched
  where
    by_lack : Fetched → Lack → Readiness
    by_lack fetched Nothing = Ready batch.plans fetched
    by_lack fetched (Piece number) = WaitsForPiece fetched.base number
    by_lack fetched (Frame worker seq) = WaitsForFrame worker seq

    by_fetched : Option Fetched → Readiness
    by_fetched None = WaitsForHead
    by_fetched (Some fetched) = by_lack fetched (lack fetched)

-- what was fetched for a batch that can be answered
abbrev pub fetched_in : Readiness → Option Fetched
fetched_in (Ready plans fetched) = Some fetched
fetched_in other = None
