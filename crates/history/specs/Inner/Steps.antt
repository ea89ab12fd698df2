-- What each step on the first word tells whoever makes it: by what was asked for, what was seen before, the number found, and what
-- is seen then.
use Rattle.std.specs.Prelude.{ℕ, ◌≡◌, ◌<◌, ◌≤◌, List, [], ◌∷◌, ◌++◌, length}
use mathlib.Core.List.{IsPrefix}
use Rattle.logbook.specs.Pages.{Step, View, may_make}
use Rattle.history.specs.declared.stamp.Stamp.{Stamp}
use Rattle.history.specs.Inner.Rule.{last_key}

-- there is a new pen
abbrev pub MakesPen : Step Stamp → View Stamp ℕ → ℕ → View Stamp ℕ → Type 0
MakesPen asked before found after = after.1.0.right ≡ may_make

-- the first stamp was added, where the word was 0
abbrev pub Begins : Step Stamp → View Stamp ℕ → ℕ → View Stamp ℕ → Type 0
Begins asked before found after = found ≡ 0 → after.0 ≡ asked.ask ∷ []

-- the stamp was added to all that had been seen
abbrev pub Adds : Step Stamp → View Stamp ℕ → ℕ → View Stamp ℕ → Type 0
Adds asked before found after = after.0 ≡ before.0 ++ asked.ask ∷ []

-- nothing was added, and a beginning that ends with the stamp of this pen is the whole history
abbrev pub Checks : Step Stamp → View Stamp ℕ → ℕ → View Stamp ℕ → Type 0
Checks asked before found after =
    (after.1.0 ≡ before.1.0)
    × ((part : List Stamp) → IsPrefix part after.0 → before.1.0.key ≡ last_key part → 0 < length part → length after.0 ≤ length part)
