-- Only for proofs: what is true of the cores at each step, and what makes them a world.
use Rattle.std.specs.Prelude.{◌≡◌, ℕ, ◌^◌, ◌<◌, ◌≤◌, List, ◌++◌, length, Some, slice_get}
use Rattle.std.specs.List.{AllByRecursion}
use Rattle.rows.specs.declared.commit.Commit.{Commit}
use Rattle.rows.specs.declared.limits.TheConstants.{REPLICAS_MAX, WORKERS_MAX}
use Rattle.rows.specs.Shape.{Shape, shape_of}
use Rattle.wire.specs.Reading.{reading}
use Rattle.wire.specs.Spelling.{HasDatagramSpelling}
use Rattle.update_log.specs.Frames.{IsSendable}
use Rattle.update_log.specs.Streams.{stream_of}
use Rattle.journal.specs.Recovery.{IsJournaled}
use Rattle.primary.specs.Journaling.{AreNumbered}
use Rattle.mvcc.specs.Transaction.{Transaction}
use Rattle.primary.specs.Sending.{pieces_of_base}
use Rattle.primary.specs.State.{Primary}
use Rattle.dispatcher.specs.Feeding.{IsFedFrom, Tells}
use Rattle.dispatcher.specs.State.{Replica}
use Rattle.dispatcher.specs.TableText.{names_of}
use Rattle.world.specs.Cores.{Cores}
use Rattle.world.specs.Standing.{boots_at}
use Rattle.world.specs.Inner.Boots.{IsInBoot}

-- what the lists of a primary that runs are: legal, and such that all that is sent of them has a spelling; and the base is within
-- what is durable
pub record PrimaryListsAreLegal (p : Primary) : Type 0 where
  pub all : IsJournaled p.workers (shape_of p.schema) (p.durable ++ p.pending)
  pub numbered : AreNumbered (p.durable ++ p.pending)
  pub sendable : (worker : ℕ) → AllByRecursion IsSendable (stream_of p.durable worker)
  pub based : p.base ≤ length p.durable
  pub pieces : length (pieces_of_base (shape_of p.schema) p.durable p.base) < 2 ^ 64
  pub pieces_spelled : AllByRecursion HasDatagramSpelling (pieces_of_base (shape_of p.schema) p.durable p.base)

pub record IsSoundPrimary (shape : Shape) (p : Primary) : Type 0 where
  pub shape_is : shape_of p.schema ≡ shape
  pub workers_some : 0 < p.workers
  pub workers_few : p.workers ≤ WORKERS_MAX

-- a replica of this number, in a boot that it had, which has the names of the tables and is fed from the durable list
pub record IsFed (shape : Shape) (names : List (List ℕ)) (workers : ℕ) (durable : List Commit) (boots : List ℕ) (number : ℕ) (r : Replica)
    : Type 0 where
  pub feeding : IsFedFrom shape durable r
  pub names_are : r.names ≡ names
  pub workers_are : r.workers ≡ workers
  pub number_is : r.number ≡ number
  pub boot_is : IsInBoot boots r.boot

pub record Sound (shape : Shape) (p : Cores) : Type 0 where
  pub setup_is : (p.setup.schema ≡ p.primary.schema) × (p.setup.workers ≡ p.primary.workers)
  pub primary_is : IsSoundPrimary shape p.primary
  pub transactions_are : (i : ℕ) (draft : Transaction) → slice_get p.transactions i ≡ Some (Some draft)
      → draft.snapshot ≤ length p.primary.durable
  pub boots_there : length p.boots ≡ length p.replicas
  pub asked_there : length p.asked_at ≡ length p.replicas
  pub few : length p.replicas ≤ REPLICAS_MAX
  pub fed : (i : ℕ) (r : Replica) → slice_get p.replicas i ≡ Some r
      → IsFed shape (names_of p.primary.schema) p.primary.workers p.primary.durable (boots_at p.boots i) i r
  pub sent_is : (i : ℕ) (bytes : List ℕ) → slice_get p.sent i ≡ Some bytes
      → Tells shape p.primary.workers p.primary.durable (reading bytes)
