-- Only for proofs: what keeps reports fresh. No version that was fetched, and none of a Head that was ever sent, is older
-- than the batch that it may serve, or than its replica.
use Rattle.std.specs.Prelude.{◌≡◌, ℕ, ◌+◌, ◌^◌, ◌<◌, ◌≤◌, List, length, None, Some, Result, Ok, Err, slice_get}
use Rattle.rows.specs.declared.commit.Commit.{Commit}
use Rattle.rows.specs.declared.limits.TheConstants.{REPLICAS_MAX}
use Rattle.wire.specs.declared.datagram.Datagram.{Datagram}
use Rattle.wire.specs.declared.datagram.Datagram.TheVariants as datagrams
use Rattle.wire.specs.declared.faults.WireFault.{WireFault}
use Rattle.wire.specs.Reading.{reading}
use Rattle.wire.specs.Spelling.{IsAsk}
use Rattle.dispatcher.specs.State.{Batch, Fetched}
use Rattle.script.specs.declared.event.Event.{Event}
use Rattle.script.specs.declared.event.Event.TheVariants as events
use Rattle.world.specs.Steps.{World, Member}
use Rattle.world.specs.Inner.Boots.{IsInBoot, IsOfBoot}

-- a batch that asked when so many commits were durable, against the version that its replica stands at: what was fetched for it is
-- no older than either, and durable
pub record IsFreshBatch (durable : List Commit) (version asked_at : ℕ) (batch : Batch) : Type 0 where
  pub asked : asked_at ≤ length durable
  pub fetched_is : (fetched : Fetched) → batch.fetched ≡ Some fetched
      → (version ≤ fetched.version) × (asked_at ≤ fetched.version) × (fetched.version ≤ length durable)

-- a replica of its number, in a boot that it had, at a version that is durable, with a fresh batch
pub record IsFreshMember (durable : List Commit) (number : ℕ) (m : Member) : Type 0 where
  pub number_is : m.protocol.number ≡ number
  pub below : m.protocol.version ≤ length durable
  pub boot_is : IsInBoot m.boots m.protocol.boot
  pub batch_is : (batch : Batch) → m.protocol.batch ≡ Some batch → IsFreshBatch durable m.protocol.version m.asked_at batch

-- a Head of this request and version, against the replica that it goes to in its own boot: the request was made, and where it
-- is the newest one the version is at least what was durable when the batch asked; it is no older than the replica, while nothing
-- is fetched for the batch
pub record IsFreshHead (m : Member) (request version : ℕ) : Type 0 where
  pub asked : request ≤ m.protocol.request
  pub above : (batch : Batch) → m.protocol.batch ≡ Some batch → request ≡ m.protocol.request → m.asked_at ≤ version
  pub on : (batch : Batch) → m.protocol.batch ≡ Some batch → batch.fetched ≡ None → request ≡ m.protocol.request
      → m.protocol.version ≤ version

-- what is known of bytes that were sent, by what they read as
abbrev pub IsFreshReading : List Commit → List Member → Result Datagram WireFault → Type 0
IsFreshReading durable members (Err fault) = Unit {0}
IsFreshReading durable members (Ok (datagrams.Frame worker seq commit last entries)) = Unit {0}
IsFreshReading durable members (Ok (datagrams.Ask replica boot request)) =
    IsAsk replica boot request
    × ((m : Member) → slice_get members replica ≡ Some m → IsOfBoot m.boots m.protocol.boot boot (request ≤ m.protocol.request))
IsFreshReading durable members (Ok (datagrams.Head head)) =
    (head.version ≤ length durable)
    × ((m : Member) → slice_get members head.replica ≡ Some m
    → IsOfBoot m.boots m.protocol.boot head.boot (IsFreshHead m head.request head.version))
IsFreshReading durable members (Ok (datagrams.Want replica worker from)) = Unit {0}
IsFreshReading durable members (Ok (datagrams.Piece base number last entries)) = Unit {0}
IsFreshReading durable members (Ok (datagrams.Pull replica base from)) = Unit {0}

pub record Fresh (w : World) : Type 0 where
  pub numbered : length w.primary.durable + length w.primary.pending < 2 ^ 64
  pub few : length w.members ≤ REPLICAS_MAX
  pub members_are : (i : ℕ) (m : Member) → slice_get w.members i ≡ Some m → IsFreshMember w.primary.durable i m
  pub sent_is : (i : ℕ) (bytes : List ℕ) → slice_get w.sent i ≡ Some bytes → IsFreshReading w.primary.durable w.members (reading bytes)

-- an event that starts a replica again gives it a boot of 64 bits
abbrev pub HasBoot : Event → Type 0
HasBoot (events.Restart replica boot) = boot < 2 ^ 64
HasBoot other = Unit {0}
