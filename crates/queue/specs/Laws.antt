-- What follows of the definitions of a moment.
use Rattle.std.specs.Prelude.{◌≡◌, ◌≤◌, ℕ, suc, List, [], ◌∷◌, Some, slice_get}
use Rattle.std.specs.List.{AllByRecursion}
use Rattle.queries.specs.declared.plan.Plan.{Plan}
use Rattle.queue.specs.declared.moves.Queued.{Queued}
use Rattle.queue.specs.Rule.{Moment, moves_until}

-- positions rise, and none is below this number
abbrev pub AreRisingFrom : ℕ → List Queued → Type 0
AreRisingFrom least [] = Unit {0}
AreRisingFrom least (one ∷ more) = (least ≤ one.position) × AreRisingFrom (suc one.position) more

-- the plan stands at its position in the put list, and the pass is its one owner
abbrev pub StandsAt : ℕ → List ℕ → List Plan → Queued → Type 0
StandsAt pass owners plans one = (slice_get owners one.position ≡ Some pass) × (slice_get plans one.position ≡ Some one.plan)

-- what was put with a pass, and what was taken with it, stands in rising position
abbrev pub MovesRise : Type 0
MovesRise = (pass : ℕ) (moment : Moment) → AreRisingFrom 0 (moves_until pass moment).put × AreRisingFrom 0 (moves_until pass moment).taken

-- each plan that was put with a pass stands at its position in the put list, which has this pass for the one that put it
abbrev pub PutIsListed : Type 0
PutIsListed = (pass : ℕ) (moment : Moment) → AllByRecursion (StandsAt pass moment.putters moment.plans) (moves_until pass moment).put

-- each plan that was taken with a pass stands at its position in the put list, and nobody but this pass took it
abbrev pub TakenOnce : Type 0
TakenOnce = (pass : ℕ) (moment : Moment) → AllByRecursion (StandsAt pass moment.takers moment.plans) (moves_until pass moment).taken
