-- The rule of a history: whose turn it is to add to it.
use Rattle.std.specs.Prelude.{ℕ, suc, ◌≡◌, ◌<◌, true, List, [], ◌∷◌, length, slice_get, Some}
use Rattle.logbook.specs.Pages.{Cell, cell, Book, Named}
use Rattle.history.specs.declared.stamp.Stamp.{Stamp}

-- the word with this key is at home: no pen may write it
abbrev pub IsHome : List Cell → ℕ → Type 0
IsHome cells key = (cell cells key).1 ≡ true

-- each pen that a stamp names has been used up (its word is at home), but for that of the last one. The first word is 1 once there
-- is a stamp
pub record IsHistory (cells : List Cell) (log : List Stamp) : Type 0 where
  pub some : 0 < length cells
  pub head : IsHome cells 0
  pub begun : 0 < length log → (cell cells 0).0 ≡ 1
  pub spent : (i : ℕ) (stamp : Stamp) → suc i < length log → slice_get log i ≡ Some stamp → IsHome cells stamp.next

-- the first word of a book, on which every step is made
abbrev pub head_of : Book → Named
head_of b = record { tracked = true; key = 0; book = b }

-- the key of the pen that adds the next stamp: the one that the last stamp names
abbrev pub last_key : List Stamp → ℕ
last_key [] = 0
last_key (last ∷ []) = last.next
last_key (stamp ∷ another ∷ stamps) = last_key (another ∷ stamps)
