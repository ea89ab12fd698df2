-- What is known to stand of a journal's file, where cutting it failed.
use Rattle.std.proofs.Common.{◌≡◌, ℕ, zero, suc, ◌≤◌, List, [], ◌∷◌, ◌++◌, length, take, drop, Result, Ok, Err, OnErr}
use Rattle.std.proofs.Common.{refl, sym, ap, ◌∙◌, arith}
use Rattle.std.proofs.lemmas.List.{length-take-le, take-append-drop}
use Rattle.journal.specs.Storing.{IsPartlyCut}

-- the first of the first bytes are the first bytes
pub take-shorter : (n m : ℕ) (bytes : List ℕ) → n ≤ m → take n bytes ≡ take n (take m bytes)
take-shorter zero m bytes h = refl
take-shorter (suc n) zero bytes h = absurd (omega arith)
take-shorter (suc n) (suc m) [] h = refl
take-shorter (suc n) (suc m) (byte ∷ bytes) h = ap (λ (rest : List ℕ). byte ∷ rest) (take-shorter n m bytes (omega arith))

-- the first bytes, of a truncation
pub cut-is_partly : (asked : ℕ) (old new : List ℕ) → asked ≤ length old → new ≡ take asked old → IsPartlyCut asked old new
cut-is_partly asked old new within is = (
  (drop asked old, sym (take-append-drop asked old) ∙ ap (λ (front : List ℕ). front ++ drop asked old) (sym is)),
  omega (arith, ap length is, length-take-le asked old within),
)

-- what holds whatever a call answered
pub on-err : {A F P : Type 0} (result : Result A F) → P → OnErr result P
on-err (Ok done) holds = tt
on-err (Err fault) holds = holds
