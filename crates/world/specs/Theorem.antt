-- The theorem: what is so of each run of the world; and that the outputs are those of one run of the cores, of which this and more is so.
use Rattle.std.specs.Prelude.{◌≡◌, ℕ, ◌^◌, ◌<◌, ◌≤◌, List, ◌∷◌, ◌++◌, length, map, Bool, Option, Some, slice_get, codes, decimal}
use Rattle.std.specs.Option.{option_map}
use Rattle.std.specs.List.{AllByRecursion}
use Rattle.rows.specs.declared.commit.Commit.{Commit}
use Rattle.rows.specs.Limits.{replicas_max}
use Rattle.rows.specs.Shape.{shape_of}
use Rattle.rows.specs.Commits.{IsLegal, tables_after}
use Rattle.journal.specs.Recovery.{IsBeginning}
use Rattle.queries.specs.declared.plan.Plan.{Plan}
use Rattle.dispatcher.specs.State.{Batch, Fetched}
use Rattle.dispatcher.specs.Report.{report_of}
use Rattle.dispatcher.specs.TableText.{names_of, table_text}
use Rattle.script.specs.Events.{IsPossible}
use Rattle.script.specs.declared.event.Event.{Event}
use Rattle.script.specs.declared.event.Event.TheVariants as events
use Rattle.script.specs.declared.output.Output.{Output}
use Rattle.script.specs.declared.output.Output.TheVariants as outputs
use Rattle.script.specs.declared.output.Output.TheVariants.{Dump}
use Rattle.script.specs.declared.setup.Setup.{Setup}
use Rattle.world.specs.Cores.{Cores, Opening, cores_started}
use Rattle.world.specs.Steps.{World, Member, opening_world}
use Rattle.world.specs.Acknowledged.{KeepsAcknowledged}
use Rattle.world.specs.Allowed.{Step, LeadsTo, events_in, outputs_in, Runs}
use Rattle.world.specs.Database.{Reader, Database, new_database, IsPromised}
use Rattle.world.specs.Renewals.{IsRunWithRenewals, IsPromisedWithRenewals, RenewsNothing}
use Rattle.world.specs.Standing.{world_of, AreFed, TablesAgree, JournalStands, LeavesOnJournal}

-- ---- what a step keeps

-- the report of a batch: for each of its queries, in order, the plain answer on the rows after exactly the commits of the
-- list up to the version that was fetched for it; that version is at least what was durable when the batch asked, and at
-- most what is durable now
abbrev pub IsReportOf : List Commit → World → ℕ → Batch → List ℕ → Type 0
IsReportOf commits w asked_at batch text =
    (fetched : Fetched) × (batch.fetched ≡ Some fetched)
    × (asked_at ≤ fetched.version) × (fetched.version ≤ length w.primary.durable)
    × (text ≡ report_of (tables_after (shape_of w.primary.schema) commits fetched.version) fetched.version batch.plans)

-- the text of tables: those after exactly the commits of the list up to a version that is durable
abbrev pub IsDumpOf : List Commit → World → ℕ → List ℕ → Type 0
IsDumpOf commits w version text =
    (version < 2 ^ 64) × (version ≤ length w.primary.durable)
    × (text ≡ table_text (names_of w.primary.schema) version (tables_after (shape_of w.primary.schema) commits version))

-- what an output says of rows: a report is that of the batch of the replica that ran, and a dump that of the version of the
-- replica that was looked at
abbrev pub SaysRows : List Commit → World → Event → Output → Type 0
SaysRows commits old event (outputs.Report text) =
    (replica : ℕ) × (member : Member) × (batch : Batch)
    × (event ≡ events.Run replica) × (slice_get old.members replica ≡ Some member) × (member.protocol.batch ≡ Some batch)
    × IsReportOf commits old member.asked_at batch text
SaysRows commits old event (outputs.Dump text) =
    (replica : ℕ) × (member : Member) × (event ≡ events.Dump replica) × (slice_get old.members replica ≡ Some member)
    × IsDumpOf commits old member.protocol.version text
SaysRows commits old event other = Unit {0}

-- an output that reports no damage: of frames that are not those of one list, of a transaction that the primary did not begin, or
-- of a journal that failed
abbrev pub IsFaultless : Output → Type 0
IsFaultless outputs.Inconsistent = ⊥
IsFaultless outputs.Foreign = ⊥
IsFaultless outputs.Failed = ⊥
IsFaultless other = Unit {0}

-- ---- a run

-- what is so of the steps of a run of the world, by the one list of commits that is durable at its end: each report and each dump is
-- exact by that list, and no report is older than its batch; what was durable stays; so does what was acknowledged; and no output
-- reports damage
pub record IsExact (commits : List Commit) (steps : List (Step World)) : Type 0 where
  pub reports : AllByRecursion (λ (step : Step World). SaysRows commits step.old step.event step.output) steps
  pub durable : AllByRecursion (λ (step : Step World). IsBeginning step.old.primary.durable step.new.primary.durable) steps
  pub acknowledged : KeepsAcknowledged steps
  pub faultless : AllByRecursion IsFaultless (outputs_in steps)

-- what is so of each run of the world by events that are possible, whoever makes it, and whatever is durable at its beginning
abbrev pub AllowedRunsAreExact : Type 0
AllowedRunsAreExact =
    (setup : Setup) (durable : List Commit) (stopped : Bool) (steps : List (Step World)) (end : World) → length durable < 2 ^ 64
    → setup.replicas ≤ replicas_max → AllByRecursion (IsPossible setup.workers setup.replicas) (events_in steps)
    → Runs (opening_world setup durable stopped) steps end
    → IsExact end.primary.durable steps

-- ---- the database that users see

-- a batch: its queries, how many commits were durable when they asked, and the version that was fetched for them
abbrev pub seen_batch : ℕ → Batch → List Plan × ℕ × Option ℕ
seen_batch asked_at batch = (batch.plans, asked_at, option_map (λ (fetched : Fetched). fetched.version) batch.fetched)

-- a replica as users see it
abbrev pub reader_of : Member → Reader
reader_of m = record { version = m.protocol.version; batch = option_map (seen_batch m.asked_at) m.protocol.batch }

-- a world as users see it: what is durable, and each replica's version and batch
abbrev pub database_of : World → Database
database_of w = record { commits = w.primary.durable; readers = map reader_of w.members }

-- each run of the world by events that are possible, whoever makes it, is one of the database, where versions are renewed
abbrev pub RunsAreOfDatabase : Type 0
RunsAreOfDatabase =
    (setup : Setup) (durable : List Commit) (stopped : Bool) (steps : List (Step World)) (end : World) → length durable < 2 ^ 64
    → setup.replicas ≤ replicas_max → AllByRecursion (IsPossible setup.workers setup.replicas) (events_in steps)
    → Runs (opening_world setup durable stopped) steps end
    → IsRunWithRenewals setup.schema (new_database durable setup.replicas) (events_in steps) (outputs_in steps) (database_of end)

-- ---- a run of the cores

-- a step of the cores, as one of the world that they make
abbrev pub seen : Step Cores → Step World
seen step = record { old = world_of step.old; event = step.event; output = step.output; new = world_of step.new }

-- a run of the cores from their start on, by these events and with these outputs: the world that they make allows each step
pub record IsRun (opening : Opening) (events : List Event) (outputs : List Output) : Type 0 where
  pub steps : List (Step Cores)
  pub end : Cores
  pub events_are : events_in steps ≡ events
  pub outputs_are : outputs_in steps ≡ outputs
  pub leads : LeadsTo (cores_started opening) steps end
  pub allowed : Runs (opening_world opening.setup opening.durable opening.stopped) (map seen steps) (world_of end)

-- the cores through which a run goes: those at their start, and those that each step left
abbrev pub cores_of : Opening → List (Step Cores) → List Cores
cores_of opening steps = cores_started opening ∷ map (λ (step : Step Cores). step.new) steps

-- the cores stand where the world does: each step leaves every replica fed from what is durable, and that on the journal; after a stop
-- the very bytes that it names are there; and replicas at one version hold the same tables, at whatever two moments
pub record CoresStand (opening : Opening) (steps : List (Step Cores)) : Type 0 where
  pub fed : AllByRecursion (λ (step : Step Cores). AreFed step.new) steps
  pub journal : AllByRecursion (λ (step : Step Cores). JournalStands step.new) steps
  pub leaves : AllByRecursion (λ (step : Step Cores). LeavesOnJournal step.old step.event step.new) steps
  pub tables : AllByRecursion (λ (p : Cores). AllByRecursion (TablesAgree p) (cores_of opening steps)) (cores_of opening steps)

-- the outputs are those of one run of the cores, and of this run all of the following is so: it is exact by the one list that is
-- durable at its end; that list is legal; the cores stand; and users see it as a run of the database
pub record AreOfOneRun (opening : Opening) (events : List Event) (outputs : List Output) : Type 0 where
  pub run : IsRun opening events outputs
  pub exact : IsExact run.end.primary.durable (map seen run.steps)
  pub legal : IsLegal (shape_of opening.setup.schema) opening.setup.workers run.end.primary.durable
  pub cores : CoresStand opening run.steps
  pub database : IsRunWithRenewals opening.setup.schema (new_database opening.durable opening.setup.replicas) events outputs
      (database_of (world_of run.end))

-- ---- what is promised of outputs

-- a text that begins with this version, as that of a dump does
abbrev pub TellsVersion : ℕ → List ℕ → Type 0
TellsVersion version text = (rest : List ℕ) × (text ≡ codes "version " ++ decimal version ++ 32 ∷ rest)

-- two dumps of one version are equal, of whatever replicas and at whatever moments
abbrev pub HasOneDumpOfVersion : List Output → Type 0
HasOneDumpOfVersion outputs =
    (version i j : ℕ) (text other : List ℕ) → version < 2 ^ 64
    → slice_get outputs i ≡ Some (Dump text) → slice_get outputs j ≡ Some (Dump other)
    → TellsVersion version text → TellsVersion version other → text ≡ other

-- all that is promised of the outputs of events
pub record KeepsPromises (opening : Opening) (events : List Event) (outputs : List Output) : Type 0 where
  -- where no event renews a version, the outputs are those of the page; and else of the page with renewals
  pub promise : AllByRecursion RenewsNothing events → IsPromised opening.setup.schema opening.durable opening.setup.replicas outputs
  pub renewed : IsPromisedWithRenewals opening.setup.schema opening.durable opening.setup.replicas events outputs
  pub each : length outputs ≡ length events
  pub run : AreOfOneRun opening events outputs
  pub dumps : HasOneDumpOfVersion outputs
  pub faultless : AllByRecursion IsFaultless outputs
