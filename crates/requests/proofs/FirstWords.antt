-- The first word of a line, and what comes after it.
use Rattle.std.proofs.Common.{◌≡◌, ℕ, ◌<◌, ◌≤◌, ◌==◌, Bool, true, false, cond, nat_lt, List, length, take, drop}
use Rattle.std.proofs.Common.{None, Some, position, refl, sym, ap, ◌∙◌, arith}
use Rattle.std.specs.List.{position_or_len}
use Rattle.std.proofs.lemmas.Bool.{ltb-true, ltb-false}
use Rattle.std.proofs.lemmas.Option.{cond_some}
use Rattle.std.proofs.lemmas.List.{take_all, length-take}
use Rattle.script.specs.EventLines.{first_word}

abbrev ends_word : ℕ → Bool
ends_word byte = byte == 32

-- the word ends at the first space
pub word-at : (line : List ℕ) (end : ℕ) → Some end ≡ position ends_word line
    → (take end line ≡ first_word line) × (drop end line ≡ drop (length (first_word line)) line)
word-at line end is =
    let found = cond_some (nat_lt (position_or_len ends_word line) (length line)) (position_or_len ends_word line) end (sym is) in
    let below : position_or_len ends_word line < length line = ltb-true _ _ found.0 in
    let len = len-of line (position_or_len ends_word line) (omega (arith, below)) in
    (ap (λ (at : ℕ). take at line) (sym found.1), ap (λ (at : ℕ). drop at line) (sym found.1 ∙ len))
  where
    len-of : (line : List ℕ) (at : ℕ) → at ≤ length line → at ≡ length (take at line)
    len-of line at within = grind (arith, length-take at line)

not_found : (found : Bool) (at : ℕ) → None ≡ cond found (Some at) None → found ≡ false
not_found true at is = cc
not_found false at is = refl

-- or where the line does
pub word-all : (line : List ℕ) → None ≡ position ends_word line
    → (take (length line) line ≡ first_word line) × (drop (length line) line ≡ drop (length (first_word line)) line)
word-all line is =
    let within = ltb-false _ _ (not_found _ (position_or_len ends_word line) is) in
    let all : first_word line ≡ line = take_all (position_or_len ends_word line) line within in
    (take_all (length line) line (omega arith) ∙ sym all, ap (λ (word : List ℕ). drop (length word) line) (sym all))
