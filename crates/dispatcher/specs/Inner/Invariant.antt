-- How the fields of a replica's core make the state that its contracts speak of, and what holds of them.
use Rattle.std.specs.Prelude.{◌≡◌, ℕ, ◌<◌, ◌≤◌, [], List, length, Bool, true, false, Option, if◌then◌else◌, nat_le, IfSome}
use Rattle.std.specs.Cmp.Lexicographic.{pointwise}
use Rattle.std.specs.Option.{option_map}
use Rattle.rows.specs.Limits.{workers_max, replicas_max}
use Rattle.rows.specs.Shape.{Shape}
use Rattle.rows.specs.Tables.{Tables}
use Rattle.intake.specs.Kept.{AreKeptFrom}
use Rattle.dispatcher.specs.declared.batch.Batch.{Batch as HeldBatch}
use Rattle.dispatcher.specs.declared.replica_core.ReplicaCore.TheInside.{Inside}
use Rattle.dispatcher.specs.Inner.Held.{batch_held}
use Rattle.dispatcher.specs.Protocol.{first_version, first_counts, fetched_for}
use Rattle.dispatcher.specs.State.{Replica, Fetched, no_pieces}
use Rattle.dispatcher.specs.TableText.{names_of}

-- a replica on a store of these tables, which began with columns of this shape
abbrev pub replica_of : {S Place Fault : Type 0} → (S → Tables) → (S → Shape) → Inside S Place Fault → Replica
replica_of tables base_shape a = record {
  names = names_of a.schema;
  shape = base_shape a.store;
  workers = a.workers;
  number = a.number;
  boot = a.boot;
  request = a.request;
  arrivals = a.intake;
  applied = a.applied;
  pieces = if a.broken then no_pieces a.pieces.base else a.pieces;
  tables = if a.broken then [] else tables a.store;
  version = a.version;
  waiting = a.waiting.items;
  batch = option_map batch_held a.batch;
  broken = a.broken;
}

-- what was fetched goes on from what has been applied: so do the version from which the batch catches up, and the frame counts there
pub record GoesOn (version : ℕ) (applied : List ℕ) (fetched : Fetched) : Type 0 where
  pub version_on : first_version version fetched ≤ fetched.version
  pub lows_on : pointwise nat_le applied (first_counts version applied fetched) ≡ true
  pub counts_on : pointwise nat_le (first_counts version applied fetched) fetched.counts ≡ true

-- what was fetched for a batch, if there is one and something was
abbrev pub BatchGoesOn : ℕ → List ℕ → Option HeldBatch → Type 0
BatchGoesOn version applied batch = IfSome (fetched_for (option_map batch_held batch)) (GoesOn version applied)

-- what holds of a replica on a store that is whole or not, and has these tables, which began with columns of this shape
pub record IsCore {S Place Fault : Type 0} (is_whole : S → Bool) (tables : S → Tables) (base_shape : S → Shape) (a : Inside S Place Fault)
    : Type 0 where
  pub few_workers : a.workers ≤ workers_max
  pub number_below : a.number < replicas_max
  pub arrivals_by_worker : length a.intake ≡ a.workers
  pub applied_by_worker : length a.applied ≡ a.workers
  -- what its tables do not have, and came, is kept
  pub others_kept : AreKeptFrom a.intake a.applied
  pub store_whole : a.broken ≡ false → is_whole a.store ≡ true
  pub fetched : BatchGoesOn a.version a.applied a.batch
  -- there are as many tables as names
  pub many : a.broken ≡ false → length (tables a.store) ≡ length a.schema
  pub begun : length (base_shape a.store) ≡ length a.schema
