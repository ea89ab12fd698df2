-- The first seq from a base on that is missing, found among those that are held above the first missing one.
use Rattle.std.proofs.Common.{◌≡◌, ℕ, ◌+◌, ◌<◌, ◌≤◌, Bool, true, false, ◌||◌, List, ap, ◌∙◌, inl, inr, arith}
use Rattle.std.specs.Prelude.{nat_lt}
use Rattle.std.proofs.lemmas.Bool.{cases_lt, le-ltb, lt-ltb}
use Rattle.intake.specs.Known.{is_known, first_missing_from}
use Rattle.intake.specs.Inner.Held.{seqs_in, AreAtLeast, IsPassed}
use Rattle.intake.proofs.Holding.{is_known-held, is_known-from, above-known}
use Rattle.intake.proofs.Missing.{least-first}

-- a seq above the first missing one that is not held is not known
unheld : (missing : ℕ) (above : List ℕ) (seq : ℕ) → missing ≤ seq → is_known above seq ≡ false
    → is_known (seqs_in missing above) seq ≡ false
unheld missing above seq up none =
    is_known-held missing above seq ∙ ap (λ (b : Bool). b || is_known above seq) (le-ltb seq missing up) ∙ none

-- the seq at which the walk ends, which began at one up to which each is known
pub least-above : (missing : ℕ) (above : List ℕ) (base from seq : ℕ) → missing < base → IsPassed base from (seqs_in missing above)
    → from ≤ seq → is_known above seq ≡ false → ((other : ℕ) → from ≤ other → other < seq → is_known above other ≡ true)
    → seq ≡ first_missing_from (seqs_in missing above) base
least-above missing above base from seq past front up none passed =
    least-first (seqs_in missing above) base seq (record {
      up = omega (arith, front.up, up);
      unknown = unheld missing above seq (omega (arith, past, front.up, up)) none;
      lower_known = λ other low high. elim (cases_lt other from) [
        | inl before ↦ front.passed other low before
        | inr after ↦ above-known missing above other (passed other after high)
      ];
    })

-- where the base is not above the first missing one, that is it
pub least-below : (missing : ℕ) (above : List ℕ) (base : ℕ) → base ≤ missing → AreAtLeast (missing + 1) above
    → missing ≡ first_missing_from (seqs_in missing above) base
least-below missing above base low from =
    least-first (seqs_in missing above) base missing (record {
      up = low;
      unknown = unheld missing above missing (omega arith) (is_known-from (missing + 1) missing above (omega arith) from);
      lower_known = λ other up high. is_known-held missing above other
          ∙ ap (λ (b : Bool). b || is_known above other) (sym-lt other missing high);
    })
  where
    sym-lt : (other missing : ℕ) → other < missing → nat_lt other missing ≡ true
    sym-lt other missing h = lt-ltb other missing h
