-- What the readers of a plan's parts answer: what was read, and the words that are left, lent.
use Rattle.std.specs.Prelude.{◌≡◌, ℕ, List, map, Option, None, Some}
use Rattle.std.specs.Borrow.{Bor}

-- what lent words are
abbrev pub lent_lists : List (Bor (List ℕ)) → List (List ℕ)
lent_lists words = map (λ word. word.now) words

-- a part, or that there is none
abbrev pub Finds : {A : Type 0} → Option (A × List (List ℕ)) → Option (A × Bor (List (Bor (List ℕ)))) → Type 0
Finds reading None = reading ≡ None
Finds reading (Some found) = reading ≡ Some (found.0, lent_lists found.1.now)

-- a join's column and the name of its table, lent
abbrev pub named : Option (ℕ × Bor (List ℕ)) → Option (ℕ × List ℕ)
named None = None
named (Some join) = Some (join.0, join.1.now)
