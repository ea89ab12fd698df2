-- What is acknowledged. A commit's ticket says under which number the commit is to stand among the durable ones, counted from 1. Once
-- `durable` is answered with that number or a greater one, by a flush or by a start, the commit stands there for good.
use Rattle.std.specs.Prelude.{◌≡◌, ℕ, ◌+◌, ◌≤◌, List, ◌∷◌, ◌++◌, Some, slice_get}
use Rattle.std.specs.List.{AllByRecursion}
use Rattle.rows.specs.declared.commit.Commit.{Commit}
use Rattle.mvcc.specs.Transaction.{Transaction}
use Rattle.script.specs.declared.event.Event.TheVariants as events
use Rattle.script.specs.declared.output.Output.TheVariants as outputs
use Rattle.world.specs.Steps.{World, open_transaction}
use Rattle.world.specs.Allowed.{Step}

-- the commit stands in a list under its number
abbrev pub StandsAt : ℕ → Commit → List Commit → Type 0
StandsAt number commit commits = (index : ℕ) × (number ≡ index + 1) × (slice_get commits index ≡ Some commit)

-- where a ticket comes from: a `commit` of an open transaction is answered with one. The commit is all entries of the transaction,
-- for the worker that the event names
abbrev pub IsTicketed : ℕ → Commit → Step World → Type 0
IsTicketed number commit step =
    (transaction worker : ℕ) × (draft : Transaction)
    × (step.event ≡ events.Commit transaction worker) × (step.output ≡ outputs.Ticket number)
    × (open_transaction step.old.transactions transaction ≡ Some draft)
    × (commit ≡ record { worker = worker; entries = draft.entries })

-- a ticket is valid until a start answers with a smaller number: the stop before it lost the commit, since it was not durable, and
-- the number is given to another one
abbrev pub StaysValid : ℕ → Step World → Type 0
StaysValid number step = (durable : ℕ) → step.event ≡ events.Start → step.output ≡ outputs.Durable durable → number ≤ durable

-- each commit whose ticket is valid when `durable` is answered with its number or a greater one stands under it in what is durable
-- then and after each later step, stops and starts among them
abbrev pub KeepsAcknowledged : List (Step World) → Type 0
KeepsAcknowledged steps =
    (before between after : List (Step World)) (ticketed answered : Step World) (number durable : ℕ) (commit : Commit)
    → steps ≡ before ++ ticketed ∷ between ++ answered ∷ after
    → IsTicketed number commit ticketed → AllByRecursion (StaysValid number) between
    → answered.output ≡ outputs.Durable durable → number ≤ durable
    → AllByRecursion (λ (step : Step World). StandsAt number commit step.new.primary.durable) (answered ∷ after)
