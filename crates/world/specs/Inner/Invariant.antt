-- Only for proofs: what every world keeps.
use Rattle.std.specs.Prelude.{◌≡◌, ◌<◌, ◌≤◌, length, false, IfSome}
use Rattle.std.specs.List.{AllByRecursion}
use Rattle.rows.specs.declared.limits.TheConstants.{REPLICAS_MAX, WORKERS_MAX}
use Rattle.rows.specs.Shape.{AreTables, shape_of}
use Rattle.dispatcher.specs.State.{Replica}
use Rattle.world.specs.Cores.{Cores}
use Rattle.world.specs.Steps.{World, Member}
use Rattle.world.specs.Standing.{world_of}
use Rattle.world.specs.Inner.CoreSteps.{KeepsStopped}
use Rattle.world.specs.Inner.Sound.{Sound}
use Rattle.world.specs.Inner.Undamaged.{IsUndamaged}
use Rattle.world.specs.Inner.Fresh.{Fresh}

-- what the program needs of its cores to call them: each open transaction reads a durable version, and each
-- request was sent
pub record IsReady (p : Cores) : Type 0 where
  pub setup_is : (p.setup.schema ≡ p.primary.schema) × (p.setup.workers ≡ p.primary.workers)
  pub workers_some : 0 < p.primary.workers
  pub workers_few : p.primary.workers ≤ WORKERS_MAX
  pub whole : p.primary.failed ≡ false
  pub kept : KeepsStopped p
  pub boots_there : length p.boots ≡ length p.replicas
  pub asked_there : length p.asked_at ≡ length p.replicas
  pub few : length p.replicas ≤ REPLICAS_MAX
  pub snapshots : AllByRecursion (λ slot. IfSome slot (λ draft. draft.snapshot ≤ length p.primary.durable)) p.transactions
  pub requests : AllByRecursion (λ (replica : Replica). replica.request ≤ length p.sent) p.replicas

-- no replica has made more requests than there were datagrams
abbrev pub IsRequested : World → Type 0
IsRequested w = AllByRecursion (λ (m : Member). m.protocol.request ≤ length w.sent) w.members

-- the cores of every world: its journal keeps what is durable, its tables are in their limits, the cores are sound, each request
-- was sent, nothing is damaged, and what was fetched is no older than its batch
pub record CoresAreKept (p : Cores) : Type 0 where
  pub journal : KeepsStopped p
  pub tables : AreTables (shape_of p.primary.schema)
  pub sound : Sound (shape_of p.primary.schema) p
  pub requested : IsRequested (world_of p)
  pub undamaged : IsUndamaged (world_of p)
  pub fresh : Fresh (world_of p)
