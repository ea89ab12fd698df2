-- The page of reports (`Database`) where versions are renewed: by a `renew` a replica gives up the version that was fetched for its
-- batch, and asks for another. Without a renewal a run is one of that page.
use Rattle.std.specs.Prelude.{◌≡◌, ℕ, List, [], ◌∷◌, None, Some, ◌⊎◌}
use Rattle.rows.specs.declared.commit.Commit.{Commit}
use Rattle.rows.specs.declared.kind.Kind.{Kind}
use Rattle.journal.specs.Recovery.{IsBeginning}
use Rattle.queries.specs.declared.plan.Plan.{Plan}
use Rattle.script.specs.declared.event.Event.{Event}
use Rattle.script.specs.declared.event.Event.TheVariants as events
use Rattle.script.specs.declared.output.Output.{Output}
use Rattle.script.specs.declared.output.Output.TheVariants as outputs
use Rattle.script.specs.declared.sent.Sent.{Sent}
use Rattle.world.specs.Database.{Reader, Database, new_database, Becomes, Says}

-- the version that was fetched for a batch is given up: its queries stay, and how many commits were durable when they asked
abbrev pub IsGivenUp : Reader → Reader → Type 0
IsGivenUp old new =
    (plans : List Plan) × (asked_at version : ℕ) × (old.batch ≡ Some (plans, asked_at, Some version))
    × (new ≡ record old { batch = Some (plans, asked_at, None) })

-- a `renew` whose Ask is sent: a replica gives up its version
abbrev pub IsRenewal : Database → Event → Output → List Reader → Type 0
IsRenewal old event output new =
    (replica : ℕ) × (list : List Sent) × (event ≡ events.Renew replica) × (output ≡ outputs.Sent list)
    × Becomes IsGivenUp old.readers new

-- one step: a step of the page, or a renewal
abbrev pub IsStepWithRenewals : List (List ℕ × List Kind) → Database → Event → Output → Database → Type 0
IsStepWithRenewals schema old event output new =
    IsBeginning old.commits new.commits × (Says schema old output new.readers ⊎ IsRenewal old event output new.readers)

-- a run: a step for each event with its output, each from the database that the one before it left
abbrev pub IsRunWithRenewals : List (List ℕ × List Kind) → Database → List Event → List Output → Database → Type 0
IsRunWithRenewals schema old [] [] new = new ≡ old
IsRunWithRenewals schema old (event ∷ events) (output ∷ outputs) new =
    (mid : Database) × IsStepWithRenewals schema old event output mid × IsRunWithRenewals schema mid events outputs new
IsRunWithRenewals schema old events outputs new = ⊥

-- the promise: these are the outputs of a run by these events, of a database that has these commits at its start, and so many replicas
abbrev pub IsPromisedWithRenewals : List (List ℕ × List Kind) → List Commit → ℕ → List Event → List Output → Type 0
IsPromisedWithRenewals schema commits replicas events outputs =
    (end : Database) × IsRunWithRenewals schema (new_database commits replicas) events outputs end

-- an event by which no version is renewed
abbrev pub RenewsNothing : Event → Type 0
RenewsNothing (events.Renew replica) = ⊥
RenewsNothing other = Unit {0}
