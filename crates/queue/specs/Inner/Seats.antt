-- Two passes at one seat of the ring.
use Rattle.std.specs.Prelude.{List, [], ◌∷◌}
use Rattle.queue.specs.declared.moves.Moves.{Moves}
use Rattle.queue.specs.Apart.{AreApart}

-- two passes that are at one seat are apart
abbrev pub AreApartAt : List Moves → Type 0
AreApartAt (one ∷ other ∷ []) = AreApart one other
AreApartAt held = Unit {0}

-- the first pass at a seat, and those behind it
abbrev pub without_more : List Moves → List Moves
without_more [] = []
without_more (moves ∷ more) = moves ∷ []

abbrev pub without_first : List Moves → List Moves
without_first [] = []
without_first (moves ∷ more) = more
