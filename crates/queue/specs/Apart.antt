-- What is known of two passes at one moment.
use Rattle.std.specs.Prelude.{◌≡◌, ℕ, List}
use Rattle.std.specs.List.{AllByRecursion}
use Rattle.queue.specs.declared.moves.Moves.{Moves}
use Rattle.queue.specs.declared.moves.Queued.{Queued}
use Rattle.queue.specs.Rule.{Moment, AreMovesAt}

-- no position is in both lists
abbrev pub ShareNoPosition : List Queued → List Queued → Type 0
ShareNoPosition one other =
    AllByRecursion (λ (mine : Queued). AllByRecursion (λ (theirs : Queued). ¬ (mine.position ≡ theirs.position)) other) one

-- the moves of two passes of different numbers, until one moment: no place of the put list was put by both, and none was taken by both
pub record AreApart (one other : Moves) : Type 0 where
  pub moment : Moment
  pub first : ℕ
  pub second : ℕ
  pub differ : ¬ (first ≡ second)
  pub mine : AreMovesAt one first moment
  pub theirs : AreMovesAt other second moment
  pub put : ShareNoPosition one.put other.put
  pub taken : ShareNoPosition one.taken other.taken
