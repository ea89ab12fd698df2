-- Cells, when one of them is written or added.
use Rattle.std.proofs.Common.{◌≡◌, ℕ, zero, suc, ◌+◌, ◌<◌, true, List, [], ◌∷◌, ◌++◌, length, refl, ap, arith, slice_set}
use Rattle.logbook.specs.Pages.{Cell, cell}
use Rattle.history.specs.Inner.Rule.{IsHome}

-- a cell that is written is at home, and the others stay so
pub home_set : (cs : List Cell) (k n j : ℕ) → IsHome cs j → IsHome (slice_set cs k (n, true)) j
home_set [] k n j h = h
home_set (c ∷ cs) zero n zero h = refl
home_set (c ∷ cs) zero n (suc j) h = h
home_set (c ∷ cs) (suc k) n zero h = h
home_set (c ∷ cs) (suc k) n (suc j) h = home_set cs k n j h

pub home_here : (cs : List Cell) (k n : ℕ) → k < length cs → IsHome (slice_set cs k (n, true)) k
home_here [] k n h = absurd (omega arith)
home_here (c ∷ cs) zero n h = refl
home_here (c ∷ cs) (suc k) n h = home_here cs k n (omega arith)

pub home_longer : (cs : List Cell) (c : Cell) (j : ℕ) → IsHome cs j → IsHome (cs ++ c ∷ []) j
home_longer [] c j h = absurd cc
home_longer (d ∷ cs) c zero h = h
home_longer (d ∷ cs) c (suc j) h = home_longer cs c j h

pub set_length : (cs : List Cell) (k : ℕ) (c : Cell) → length (slice_set cs k c) ≡ length cs
set_length [] k c = refl
set_length (d ∷ cs) zero c = refl
set_length (d ∷ cs) (suc k) c = ap suc (set_length cs k c)

-- the number of the first cell, when it is written, when a cell is added, and when another is written
pub number_here : (cs : List Cell) (n : ℕ) → 0 < length cs → (cell (slice_set cs 0 (n, true)) 0).0 ≡ n
number_here [] n h = absurd (omega arith)
number_here (c ∷ cs) n h = refl

pub number_longer : (cs : List Cell) (c : Cell) → 0 < length cs → (cell (cs ++ c ∷ []) 0).0 ≡ (cell cs 0).0
number_longer [] c h = absurd (omega arith)
number_longer (d ∷ cs) c h = refl

pub number_else : (cs : List Cell) (k n : ℕ) → 0 < k → (cell (slice_set cs k (n, true)) 0).0 ≡ (cell cs 0).0
number_else [] k n h = refl
number_else (c ∷ cs) zero n h = absurd (omega arith)
number_else (c ∷ cs) (suc k) n h = refl
