-- What an event may answer and leave, out of memory included; and runs of the world.
use Rattle.std.specs.Prelude.{◌≡◌, ◌<◌, List, [], ◌∷◌, length, map, take, Bool, true, false, ◌&&◌, not, nat_lt, Option, None, Some}
use Rattle.std.specs.Prelude.{slice_get, ◌⊎◌}
use Rattle.std.specs.List.{AllByRecursion}
use Rattle.dispatcher.specs.State.{Fetched}
use Rattle.dispatcher.specs.Protocol.{fetched_in}
use Rattle.script.specs.declared.event.Event.{Event}
use Rattle.script.specs.declared.event.Event.TheVariants as events
use Rattle.script.specs.declared.output.Output.{Output}
use Rattle.script.specs.declared.output.Output.TheVariants as outputs
use Rattle.world.specs.Steps.{World, Member, none_known, happens, with_member, readiness_at, caught_up}

-- a replica that is broken: its pieces are gone
abbrev pub broken_at : Member → Member
broken_at m = record m { pieces = none_known m.pieces.base; protocol = record m.protocol { broken = true } }

-- a run that is out of memory at a replica that has fetched a version and lacks nothing: it stands at the old version or at the
-- fetched one and may run again; or it is broken, if there was something to apply
abbrev pub RunIsInterrupted : World → Option Member → Output → World → Type 0
RunIsInterrupted old None output new = ⊥
RunIsInterrupted old (Some m) output new =
    (fetched : Fetched) × (fetched_in (readiness_at m) ≡ Some fetched)
    × (((output ≡ outputs.Memory) × (new ≡ with_member old (caught_up m fetched m.protocol.batch)))
    ⊎ ((output ≡ outputs.Broken) × (new ≡ with_member old (broken_at m))
    × (m.protocol.version < fetched.version)))

abbrev pub RunIsInterruptedAt : World → Event → Output → World → Type 0
RunIsInterruptedAt old (events.Run replica) output new = RunIsInterrupted old (slice_get old.members replica) output new
RunIsInterruptedAt old other output new = ⊥

-- whether an answer is made with memory
abbrev pub takes_memory : Output → Bool
takes_memory (outputs.Tx number snapshot) = true
takes_memory outputs.Accepted = true
takes_memory (outputs.Ticket number) = true
takes_memory (outputs.Durable commits) = true
takes_memory (outputs.Based base pieces) = true
takes_memory (outputs.Sent datagrams) = true
takes_memory outputs.Stored = true
takes_memory (outputs.Shown bytes) = true
takes_memory (outputs.Opened count) = true
takes_memory (outputs.WaitingPiece number pull) = true
takes_memory (outputs.Waiting worker seq want) = true
takes_memory (outputs.Report text) = true
takes_memory (outputs.Dump text) = true
takes_memory (outputs.Boot boot) = true
takes_memory other = false

-- whether an event asks for memory if it would give this answer: an abort asks for none, a flush for some if there is a commit to
-- flush, a base if it is not the one that there is, a stop if the primary runs, and any other event if its answer is made with memory
abbrev pub asks_for_memory : World → Event → Output → Bool
asks_for_memory w (events.Abort transaction) answer = false
asks_for_memory w (events.Flush count) answer = takes_memory answer && nat_lt 0 (length (take count w.primary.pending))
asks_for_memory w events.Base answer = takes_memory answer && nat_lt w.primary.base (length w.primary.durable)
asks_for_memory w (events.Stop bytes) answer = not w.stopped
asks_for_memory w other answer = takes_memory answer

-- an event is out of memory: it asks for some, answers `memory`, and nothing has changed
abbrev pub LacksMemory : World → Event → Output → World → Type 0
LacksMemory old event output new =
    (output ≡ outputs.Memory) × (new ≡ old) × (asks_for_memory old event (happens old event).0 ≡ true)

-- what an event may answer and leave: what happens; or it is out of memory; or a run is interrupted
abbrev pub MayHappen : World → Event → Output → World → Type 0
MayHappen old event output new =
    (happens old event ≡ (output, new)) ⊎ LacksMemory old event output new ⊎ RunIsInterruptedAt old event output new

-- ---- runs

-- one step of a run: the state before it, the event, what that answered, and the state that it left
pub record Step (State : Type 0) : Type 0 where
  pub old : State
  pub event : Event
  pub output : Output
  pub new : State

-- these steps lead from one state to another, each from the state that the one before it left
abbrev pub LeadsTo : {State : Type 0} → State → List (Step State) → State → Type 0
LeadsTo old [] new = new ≡ old
LeadsTo old (step ∷ steps) new = (step.old ≡ old) × LeadsTo step.new steps new

-- the events of steps, and what they answered
abbrev pub events_in : {State : Type 0} → List (Step State) → List Event
events_in {State} steps = map (λ (step : Step State). step.event) steps

abbrev pub outputs_in : {State : Type 0} → List (Step State) → List Output
outputs_in {State} steps = map (λ (step : Step State). step.output) steps

-- a step of the world that may happen
abbrev pub IsAllowed : Step World → Type 0
IsAllowed step = MayHappen step.old step.event step.output step.new

-- a run of the world: each step of it may happen
pub record Runs (old : World) (steps : List (Step World)) (new : World) : Type 0 where
  pub leads : LeadsTo old steps new
  pub allowed : AllByRecursion IsAllowed steps
