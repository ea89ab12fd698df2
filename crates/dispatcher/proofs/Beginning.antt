-- Before anything has come.
use Rattle.std.proofs.Common.{◌≡◌, ℕ, zero, suc, false, List, refl, sym, ◌∙◌}
use Rattle.std.proofs.lemmas.Bool.{true≢false}
use Rattle.intake.specs.Kept.{AreKeptFrom}
use Rattle.intake.specs.Known.{is_known}
use Rattle.intake.specs.State.{known_of}
use Rattle.intake.specs.Steps.{no_arrivals as none_came}

-- no frame is known
pub none-known : (workers worker seq : ℕ) → is_known (known_of (none_came workers) worker) seq ≡ false
none-known zero worker seq = refl
none-known (suc workers) zero seq = refl
none-known (suc workers) (suc worker) seq = none-known workers worker seq

-- so none is to be kept
pub none-lost : (workers : ℕ) (lows : List ℕ) → AreKeptFrom (none_came workers) lows
none-lost workers lows worker seq low known = absurd (true≢false (sym known ∙ none-known workers worker seq))
