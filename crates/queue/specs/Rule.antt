-- The rule of the queue: the list of all plans that were ever put, who put and who took each, and what a pass knows of it.
use Rattle.std.specs.Prelude.{◌≡◌, ◌==◌, ◌<◌, ◌≤◌, if◌then◌else◌, ℕ, suc, List, [], ◌∷◌, ◌++◌, length, drop, map}
use mathlib.Core.Option.{some}
use lib.ListN.{get_elem?}
use Rattle.queries.specs.declared.plan.Plan.{Plan}
use Rattle.queue.specs.declared.moves.Queued.{Queued}
use Rattle.queue.specs.declared.moves.Moves.{Moves}

-- a moment of the queue: all plans that were ever put, in the order of the puts (the put list); by its number, the pass
-- that put each of them; and the pass that took each of the first ones
pub record Moment : Type 0 where
  pub plans : List Plan
  pub putters : List ℕ
  pub takers : List ℕ

-- each plan was put by one pass; those that were taken are the first ones, and each was taken by one pass
pub record IsMoment (moment : Moment) : Type 0 where
  pub each_put : length moment.putters ≡ length moment.plans
  pub first_taken : length moment.takers ≤ length moment.plans

-- what the queue holds at a moment: what was put and not taken
abbrev pub waiting : Moment → List Plan
waiting moment = drop (length moment.takers) moment.plans

-- a plan with its position in the put list
abbrev pub queued : ℕ → Plan → Queued
queued position plan = record { position = position; plan = plan }

-- the plans that a pass owns, each with its position: the n-th owner owns the n-th plan, and the first plan has this position
abbrev pub owned : ℕ → ℕ → List ℕ → List Plan → List Queued
owned pass position [] plans = []
owned pass position (owner ∷ owners) [] = []
owned pass position (owner ∷ owners) (plan ∷ plans) =
    if owner == pass then queued position plan ∷ owned pass (suc position) owners plans
    else owned pass (suc position) owners plans

-- all that was put and taken with a pass until a moment
abbrev pub moves_until : ℕ → Moment → Moves
moves_until pass moment = record {
  put = owned pass 0 moment.putters moment.plans;
  taken = owned pass 0 moment.takers moment.plans;
}

-- nothing was put or taken
abbrev pub no_moves : Moves
no_moves = record { put = []; taken = [] }

-- what a seat of the ring holds of the pass that it stands for: a seat holds the moves of one pass, but for the time in which
-- two passes are compared
abbrev pub first_of : List Moves → Moves
first_of [] = no_moves
first_of (moves ∷ more) = moves

-- the rule: at each moment the queue holds what was put and not taken; each pass has a number of its own and one place, at a seat
-- of the ring; there all that was put and taken with it is known; and nothing was put or taken without a pass
pub record IsInOrder (items : List Plan) (seats : List (List Moves)) : Type 0 where
  pub moment : Moment
  pub sound : IsMoment moment
  pub holds : items ≡ waiting moment
  -- how many passes there are: their numbers are below it
  pub count : ℕ
  -- at which seat a pass is, and at which place there
  pub seat_of : ℕ → ℕ
  pub place_of : ℕ → ℕ
  pub each : (seat place : ℕ) (held : List Moves) (moves : Moves) → get_elem? seats seat ≡ some held → get_elem? held place ≡ some moves
      → (pass : ℕ) × (pass < count) × (seat_of pass ≡ seat) × (place_of pass ≡ place) × (moves ≡ moves_until pass moment)
  pub no_other : (pass : ℕ) → count ≤ pass → moves_until pass moment ≡ no_moves

-- these are all moves of a pass until a moment: a moment that is not before any of them
pub record AreMovesAt (moves : Moves) (pass : ℕ) (moment : Moment) : Type 0 where
  pub sound : IsMoment moment
  pub all : moves ≡ moves_until pass moment

-- there is such a moment
abbrev pub AreMovesOfMoment : Moves → Type 0
AreMovesOfMoment moves = (pass : ℕ) × (moment : Moment) × AreMovesAt moves pass moment

-- the moment after a put: the plan is the last of the put list
abbrev pub after_put : ℕ → Plan → Moment → Moment
after_put pass plan moment = record {
  plans = moment.plans ++ plan ∷ [];
  putters = moment.putters ++ pass ∷ [];
  takers = moment.takers;
}

-- the moment after the first plan that waited was taken
abbrev pub after_take : ℕ → Moment → Moment
after_take pass moment = record {
  plans = moment.plans;
  putters = moment.putters;
  takers = moment.takers ++ pass ∷ [];
}

-- what a put leaves: at a moment the plan joined the put list at its end, and the pass knows of this put besides what it knew
pub record Puts (old : Moves) (plan : Plan) (new : Moves) : Type 0 where
  pub pass : ℕ
  pub moment : Moment
  pub before : AreMovesAt old pass moment
  pub after : AreMovesAt new pass (after_put pass plan moment)
  pub one_more : new.put ≡ old.put ++ queued (length moment.plans) plan ∷ []
  pub same : new.taken ≡ old.taken

-- what taking one plan leaves: at a moment it was the first that waited, and the pass knows that it took it
pub record Takes (old : Moves) (plan : Plan) (new : Moves) : Type 0 where
  pub pass : ℕ
  pub moment : Moment
  pub before : AreMovesAt old pass moment
  pub after : AreMovesAt new pass (after_take pass moment)
  pub first : (rest : List Plan) × (waiting moment ≡ plan ∷ rest)
  pub one_more : new.taken ≡ old.taken ++ queued (length moment.takers) plan ∷ []
  pub same : new.put ≡ old.put

-- the plan of one with its position
abbrev pub plan_in : Queued → Plan
plan_in one = one.plan

-- what taking a batch leaves: so many plans were taken, and just these were given, in order, after what the batch had
pub record TakesBatch (old : Moves) (before : List Plan) (count : ℕ) (new : Moves) (after : List Plan) : Type 0 where
  pub added : List Queued
  pub counted : length added ≡ count
  pub more : new.taken ≡ old.taken ++ added
  pub same : new.put ≡ old.put
  pub given : after ≡ before ++ map plan_in added
