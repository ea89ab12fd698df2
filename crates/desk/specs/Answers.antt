-- What a seat is answered, by the list of commits that it has seen.
use Rattle.std.specs.Prelude.{◌≡◌, ℕ, ◌-◌, ◌^◌, ◌<◌, ◌≤◌, List, [], length, map, take, drop, true, Option, None, Some}
use Rattle.std.specs.Prelude.{max, slice_get, nat_lt, ◌==◌, if◌then◌else◌}
use Rattle.std.specs.List.{AllByRecursion}
use Rattle.std.specs.Option.{option_map}
use Rattle.rows.specs.declared.commit.Commit.{Commit}
use Rattle.rows.specs.declared.kind.Kind.{Kind}
use Rattle.rows.specs.Limits.{workers_max}
use Rattle.rows.specs.Shape.{Shape}
use Rattle.journal.specs.Recovery.{IsJournaled}
use Rattle.mvcc.specs.VersionList.{defined_at}
use Rattle.mvcc.specs.Transaction.{Transaction}
use Rattle.update_log.specs.Frames.{IsSendable}
use Rattle.update_log.specs.Streams.{stream_of, frame_count}
use Rattle.primary.specs.Journaling.{AreNumbered}
use Rattle.primary.specs.Sending.{pieces_of_base}
use Rattle.primary.specs.State.{Primary}
use Rattle.primary.specs.Steps.{started_primary}
use Rattle.primary.specs.declared.faults.CommitFault.{CommitFault}
use Rattle.primary.specs.declared.faults.CommitFault.TheVariants.{ReadOnly, Foreign, Conflict}
use Rattle.primary.specs.declared.ticket.Ticket.{Ticket}
use Rattle.wire.specs.Spelling.{frame_spelling, HasDatagramSpelling}
use Rattle.desk.specs.declared.answers.Flushed.{Flushed}
use Rattle.desk.specs.declared.answers.Flushed.TheVariants.{Published, Unpublished}
use Rattle.desk.specs.declared.answers.Settled.{Settled}
use Rattle.desk.specs.declared.answers.Settled.TheVariants as settles

-- why a transaction is not committed: only one without entries is read only; a conflict is with a commit after its snapshot;
-- one whose snapshot is within the seat's list, and whose entries are defined there, is not foreign
abbrev pub IsCommitRefusal : List (List ℕ × List Kind) → List Commit → Transaction → CommitFault → Type 0
IsCommitRefusal schema list draft ReadOnly = draft.entries ≡ []
IsCommitRefusal schema list draft (Conflict number) = draft.snapshot < number
IsCommitRefusal schema list draft Foreign =
    draft.snapshot ≤ length list → ¬ (defined_at (record { schema = schema; commits = list }) draft.snapshot draft.entries ≡ true)
IsCommitRefusal schema list draft other = Unit {0}

-- how many of the first so many pending commits a flush moves that was to make as many commits durable as `target`: none, if they are
abbrev pub left_to_flush : Primary → ℕ → ℕ → ℕ
left_to_flush p target count = if nat_lt (length p.durable) target then count else 0

-- what a flush answers: at least what the seat had seen is durable, and it has seen all that is published
abbrev pub IsFlushed : List Commit → List Commit → Flushed → Type 0
IsFlushed old new (Published durable) = (length old ≤ durable) × (durable ≤ length new)
IsFlushed old new (Unpublished durable) = length old ≤ durable

-- and by the durable list: it reports how many commits are durable, and after all was published the seat has seen them
abbrev pub TellsDurable : List Commit → List Commit → Flushed → Type 0
TellsDurable durable seen (Published number) = (number ≡ length durable) × (seen ≡ durable)
TellsDurable durable seen (Unpublished number) = number ≡ length durable

-- the commit of that number, counted from 1
abbrev pub commit_at : List Commit → ℕ → Option Commit
commit_at commits number = if number == 0 then None else slice_get commits (number - 1)

-- the ticket's commit stands at its number
abbrev pub Stands : List Commit → Ticket → Type 0
Stands list ticket = commit_at list ticket.number ≡ Some (record { worker = ticket.worker; entries = ticket.entries })

-- what has become of a ticket's commit, by the seat's list
abbrev pub IsSettled : List Commit → Ticket → Settled → Type 0
IsSettled list ticket (settles.Settled number) = (number ≡ ticket.number) × Stands list ticket
IsSettled list ticket settles.Lost = (ticket.number ≤ length list) × ¬ Stands list ticket
IsSettled list ticket settles.NotYet = length list < ticket.number
IsSettled list ticket settles.Unpublished = length list < ticket.number

-- a primary of which just this list is durable, on that base, and nothing pending: what is sent of a list is what it sends
abbrev pub primary_of : List (List ℕ × List Kind) → ℕ → List Commit → (base : ℕ) → Primary
primary_of schema workers list base = record (started_primary schema workers list) { base = base }

-- a base that a primary of this list may have: it is within the list, 64 bits count its pieces, and a datagram spells each of them
pub record IsBaseOf (shape : Shape) (list : List Commit) (base : ℕ) : Type 0 where
  pub within : base ≤ length list
  pub counted : length (pieces_of_base shape list base) < 2 ^ 64
  pub spelled : AllByRecursion HasDatagramSpelling (pieces_of_base shape list base)

-- the packet of that seq of a worker's stream of a list, if the stream has it, whether it is kept or not
abbrev pub packet_at : List Commit → ℕ → ℕ → Option (List ℕ)
packet_at list worker seq = option_map frame_spelling (slice_get (stream_of list worker) seq)

-- a row: the packets of a worker's stream of a list from that seq on, as many as the stream has, and at most so many
abbrev pub row_of : List Commit → ℕ → ℕ → ℕ → List (List ℕ)
row_of list worker start most = map frame_spelling (take most (drop start (stream_of list worker)))

-- the seq of the first frame of a worker that is kept on that base, from that seq on
abbrev pub kept_from : List Commit → (base worker from : ℕ) → ℕ
kept_from list base worker from = max from (frame_count list worker base)

-- a list whose frames and Heads can be read back from what is sent: a journal may be of it, its commits and frames have numbers of 64
-- bits, a datagram spells each of its frames, and there are 1 to 16 workers
pub record IsReadable (workers : ℕ) (shape : Shape) (list : List Commit) : Type 0 where
  pub legal : IsJournaled workers shape list
  pub numbered : AreNumbered list
  pub sendable : (worker : ℕ) → AllByRecursion IsSendable (stream_of list worker)
  pub some : 0 < workers
  pub few : workers ≤ workers_max
